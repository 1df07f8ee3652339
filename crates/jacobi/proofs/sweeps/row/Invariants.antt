-- The loop keeps: what is left of the row gives the row whole, and each entry has rotated at most once.
use Prim.Native.Nat.{◌+◌}
use Rattle.dual.specs.Rules.{dual_algebra}
use Rattle.rotations.specs.Buffers.{work_of}
use Rattle.rotations.specs.Rotation.{pair}
use Rattle.jacobi.specs.Sweeps.{row}
use Rattle.jacobi.proofs.Swept.{Working}
use Rattle.jacobi.proofs.sweeps.row.Given as goal

abbrev pub invariant-loop-q : goal.invariant-loop-q
invariant-loop-q l =
    let n = l.initial.work.n in
    Working (pair dual_algebra n l.thresh l.it_num l.p) (l.p + 1) 1 l.initial.work l.work (row dual_algebra n l.thresh l.it_num l.p (work_of l.initial.work)) l.q
