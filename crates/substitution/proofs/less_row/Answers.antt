-- The loop keeps: the products left to take give the whole row (Substitution).
use borrow.Author.Rules.{rules}
use Prim.Native.Nat.{◌<◌}
use native.Mathlib.Omega.{arith}
use Rattle.matrices.proofs.Held.{square_held, strided_held}
use Rattle.matrices.proofs.Substitution.{lessening, less_turn, less_end}
use Rattle.substitution.proofs.less_row.Goals as goal

pub loop-k-preserved : goal.loop-k-preserved
loop-k-preserved g c = search (rules, less_turn g.met.R.Record.laws)

pub returns : goal.returns
returns g c = search (rules, less_end g.met.R.Record.laws)

-- both records are held: one of the row, one of the vector
pub less_product-r-requires : goal.less_product-r-requires
less_product-r-requires g c =
    let s = c.requires in
    let h : c.loop-k.k < c.args.a.now.n = omega arith in
    record { p_held = square_held g.met.R.Record.laws _ _ _ _ c.args.a.now.square s.i_lt_n h; q_held = strided_held g.met.R.Record.laws _ _ _ _ _ _ s.strided h c.at.ensures }
