-- The loop keeps: what is left to add gives the column's whole sum.
use mathlib.Core.Path.{◌≡◌}
use Rattle.algebra.specs.Loop.{upto}
use Rattle.dual.specs.Rules.{dual_algebra, dual_records}
use Rattle.jacobi.specs.Sweeps.{add_square, column_squares}
use Rattle.jacobi.proofs.sweeps.column_squares.Given as goal

abbrev pub invariant-loop-i : goal.invariant-loop-i
invariant-loop-i l = upto l.i l.j (add_square dual_algebra l.work.n (dual_records l.work.a.now) l.j) l.sum ≡ column_squares dual_algebra l.work.n (dual_records l.work.a.now) l.j l.thresh
