-- The loop keeps: the multiplier as it is, and what is left to run gives the whole row (RowsReduced).
use Rattle.matrices.proofs.RowsReduced.{Subtracting}
use Rattle.columns.proofs.subtract_row.Given as goal

abbrev pub invariant-loop-k : goal.invariant-loop-k
invariant-loop-k g l = Subtracting g.met.R.Record.laws l.n l.initial.a l.i l.j l.x l.a l.k
