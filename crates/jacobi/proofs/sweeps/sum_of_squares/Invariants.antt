-- The loop keeps: what is left to add gives the whole sum.
use mathlib.Core.Path.{◌≡◌}
use Rattle.algebra.specs.Loop.{upto}
use Rattle.dual.specs.Rules.{dual_algebra, dual_records}
use Rattle.jacobi.specs.Sweeps.{column_squares, sum_of_squares}
use Rattle.jacobi.proofs.sweeps.sum_of_squares.Given as goal

abbrev pub invariant-loop-j : goal.invariant-loop-j
invariant-loop-j l = upto l.j l.work.n (column_squares dual_algebra l.work.n (dual_records l.work.a.now)) l.sum ≡ sum_of_squares dual_algebra l.work.n (dual_records l.work.a.now)
