-- The loop keeps: the diagonal's product and the order's marks, each as far as the turn (DiagonalWalk).
use Rattle.matrices.proofs.DiagonalWalk.{Walking}
use Rattle.columns.proofs.determinant_of.Given as goal

abbrev pub invariant-loop-i : goal.invariant-loop-i
invariant-loop-i g l = Walking g.met.R.Record.laws l.n l.a l.order l.marks l.x l.i
