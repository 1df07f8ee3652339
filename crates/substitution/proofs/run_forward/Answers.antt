-- The loop keeps: the elements left to make, from the first on, give the whole (Turns).
use borrow.Author.Rules.{rules}
use Rattle.matrices.proofs.Places.{row_place, strided_keep}
use Rattle.matrices.proofs.Turns.{run_turn, run_end}
use Rattle.matrices.proofs.Substitution.{forwarding}
use Rattle.substitution.proofs.run_forward.Goals as goal

pub loop-i-init : goal.loop-i-init
loop-i-init g c = forwarding g.met.R.Record.laws _ _ _ _ _

pub loop-i-preserved : goal.loop-i-preserved
loop-i-preserved g c = search (rules, run_turn g.met.R.Record.laws)

pub returns : goal.returns
returns g c = search (rules, run_end g.met.R.Record.laws)
