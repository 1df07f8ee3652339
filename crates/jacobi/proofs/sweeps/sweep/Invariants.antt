-- The loop keeps: what is left of the sweep gives the sweep whole, and each row has rotated at most 32 times.
use Rattle.refusals.specs.Largest as largest
use Rattle.dual.specs.Rules.{dual_algebra}
use Rattle.rotations.specs.Buffers.{work_of}
use Rattle.jacobi.specs.Sweeps.{row, sweep}
use Rattle.jacobi.proofs.Swept.{Working}
use Rattle.jacobi.proofs.sweeps.sweep.Given as goal

abbrev pub invariant-loop-p : goal.invariant-loop-p
invariant-loop-p l =
    let n = l.initial.work.n in
    Working (row dual_algebra n l.thresh l.it_num) 0 largest.n l.initial.work l.work (sweep dual_algebra n l.thresh l.it_num (work_of l.initial.work)) l.p
