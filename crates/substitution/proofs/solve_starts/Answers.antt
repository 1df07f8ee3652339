-- The loop keeps: the elements passed hold their starts (StartsWritten).
use native.Mathlib.Omega.{arith}
use borrow.Author.Rules.{rules}
use Rattle.orders.proofs.Permutation.{order_below}
use Rattle.matrices.proofs.Held.{vector_held}
use Rattle.matrices.proofs.StartsWritten.{starting, start_turn, start_end}
use Rattle.substitution.proofs.solve_starts.Goals as goal

-- an entry of the order is below n, and so is its record in b
pub read-requires : goal.read-requires
read-requires g c =
    let s = c.requires in
    vector_held g.met.R.Record.laws _ _ _ _ s.b_len (search rules) (order_below _ _ s.order c.loop-k.k (omega (arith, s.order.size)))

pub write-requires : goal.write-requires
write-requires g c = vector_held g.met.R.Record.laws _ _ _ _ c.requires.x_len (search rules) (omega (arith, c.requires.order.size))

pub loop-k-preserved : goal.loop-k-preserved
loop-k-preserved g c = start_turn g.met.R.Record.laws _ _ _ _ _ _ _ c.loop-k.invariant (omega (arith, c.requires.order.size)) c.requires.x_len (search rules) c.read.ensures c.write.ensures

pub returns : goal.returns
returns g c = start_end g.met.R.Record.laws _ _ _ _ _ c.loop-k.invariant (omega (arith, c.requires.order.size)) c.requires.x_len
