-- The loop keeps: the rows left to look at, from the best so far, give the pivot (PivotSought).
use Rattle.matrices.proofs.PivotSought.{Seeking}
use Rattle.matrices.proofs.rows.find_pivot.Given as goal

abbrev pub invariant-loop-k : goal.invariant-loop-k
invariant-loop-k l = Seeking l.w l.n l.a l.i l.b l.k
