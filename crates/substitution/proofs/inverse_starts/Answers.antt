-- The loop keeps: the ones left to write give all starts (StartsWritten).
use Prim.Native.Nat.{◌<◌}
use native.Mathlib.Omega.{arith}
use borrow.Author.Rules.{rules}
use Rattle.orders.proofs.Permutation.{order_below}
use Rattle.matrices.proofs.Places.{square_kept}
use Rattle.matrices.proofs.Held.{square_held}
use Rattle.matrices.proofs.Turns.{run_end}
use Rattle.matrices.proofs.StartsWritten.{ones_start, ones_turn}
use Rattle.substitution.proofs.inverse_starts.Goals as goal

pub loop-i-init : goal.loop-i-init
loop-i-init g c = search (rules, ones_start g.met.R.Record.laws)

pub write-requires : goal.write-requires
write-requires g c =
    let s = c.requires in
    let h : c.loop-i.i < c.args.n = omega (arith, s.order.size) in
    square_held g.met.R.Record.laws _ _ _ _ (square_kept _ _ _ _ s.square (search rules)) h (order_below _ _ s.order c.loop-i.i h)

pub loop-i-preserved : goal.loop-i-preserved
loop-i-preserved g c = search (rules, ones_turn g.met.R.Record.laws)

pub returns : goal.returns
returns g c = run_end g.met.R.Record.laws _ _ _ _ _ _ c.loop-i.invariant (omega (arith, c.requires.order.size))
