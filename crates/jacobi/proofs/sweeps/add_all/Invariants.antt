-- The loop keeps: what is left to add gives the sums whole.
use Rattle.dual.specs.Rules.{dual_algebra, dual_records}
use Rattle.dual.specs.Laws.{dual_laws}
use Rattle.matrices.proofs.Turns.{Running}
use Rattle.jacobi.specs.Sweeps.{add_item, add_all}
use Rattle.jacobi.proofs.sweeps.add_all.Given as goal

abbrev pub invariant-loop-i : goal.invariant-loop-i
invariant-loop-i l = Running dual_laws (add_item dual_algebra l.n (dual_records l.zw)) l.n l.initial.bw l.bw l.i (add_all dual_algebra l.n (dual_records l.zw) (dual_records l.initial.bw))
