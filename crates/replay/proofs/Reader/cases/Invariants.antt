-- The loop ends: fewer cases are left after each.
use Rattle.replay.proofs.Reader.cases.Given as goal

abbrev pub decreases-loop-run : goal.decreases-loop-run
decreases-loop-run g l = l.run.left
