-- The loop keeps: the columns left to run give LU (ColumnsRun).
use Rattle.matrices.proofs.ColumnsRun.{Columns}
use Rattle.columns.proofs.run_columns.Given as goal

abbrev pub invariant-loop-i : goal.invariant-loop-i
invariant-loop-i g l = Columns g.met.R.Record.laws l.n l.initial.a l.a l.initial.order l.order l.swaps l.i
