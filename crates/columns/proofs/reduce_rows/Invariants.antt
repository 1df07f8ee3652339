-- The loop keeps: the rows left to reduce give the whole (Turns).
use Rattle.matrices.proofs.RowsReduced.{Reducing}
use Rattle.columns.proofs.reduce_rows.Given as goal

abbrev pub invariant-loop-j : goal.invariant-loop-j
invariant-loop-j g l = Reducing g.met.R.Record.laws l.n l.initial.a l.i l.a l.j
