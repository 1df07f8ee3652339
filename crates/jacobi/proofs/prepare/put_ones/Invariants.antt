-- The loop keeps: what is left to put gives the whole diagonal.
use Rattle.algebra.specs.Loop.{upto}
use Rattle.dual.specs.Rules.{dual_algebra, dual_records}
use Rattle.dual.specs.Laws.{dual_laws}
use Rattle.matrices.proofs.Turns.{Running}
use Rattle.matrices.specs.Matrix.{Square}
use Rattle.jacobi.specs.Sweeps.{put_one}
use Rattle.jacobi.proofs.prepare.put_ones.Given as goal

abbrev pub invariant-loop-i : goal.invariant-loop-i
invariant-loop-i l = Square 2 l.n l.v × Running dual_laws (put_one dual_algebra l.n) l.n l.initial.v l.v l.i (upto 0 l.n (put_one dual_algebra l.n) (dual_records l.initial.v))
