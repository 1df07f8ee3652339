-- The loop keeps: the elements left to make, from the last back, give the whole (Turns).
use borrow.Author.Rules.{rules}
use native.Mathlib.Omega.{arith}
use Rattle.matrices.proofs.Places.{row_place, strided_keep}
use Rattle.matrices.proofs.Turns.{run_end}
use Rattle.matrices.proofs.Substitution.{back_start, back_turn}
use Rattle.substitution.proofs.run_back.Goals as goal

pub loop-i-init : goal.loop-i-init
loop-i-init g c = back_start g.met.R.Record.laws _ _ _ _ _

pub loop-i-preserved : goal.loop-i-preserved
loop-i-preserved g c = search (rules, back_turn g.met.R.Record.laws)

pub returns : goal.returns
returns g c = run_end g.met.R.Record.laws _ _ _ _ _ _ c.loop-i.invariant (omega arith)
