-- The loop keeps: what is left to turn gives the part between whole.
use borrow.Author.Rules.{rules}
use Rattle.dual.specs.Laws.{dual_laws}
use Rattle.matrices.proofs.Turns.{run_turn, run_end}
use Rattle.rotations.specs.Rotation.{turn_between}
use Rattle.rotations.proofs.Angle.turn_between.Goals as goal

-- before the first turn the whole is left to run
pub loop-j-init : goal.loop-j-init
unfolding turn_between
loop-j-init c = search rules

pub loop-j-preserved : goal.loop-j-preserved
loop-j-preserved c = search (rules, run_turn dual_laws)

pub returns : goal.returns
returns c = search (rules, run_end dual_laws)
