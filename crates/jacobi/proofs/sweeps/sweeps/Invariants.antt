-- The loop keeps: what is left to sweep gives the whole run; a run that has settled stays so.
use Rattle.algebra.specs.Loop.{upto}
use Rattle.dual.specs.Rules.{dual_algebra}
use Rattle.jacobi.specs.Answer.{run_of}
use Rattle.jacobi.specs.Sweeps.{step}
use Rattle.jacobi.proofs.Swept.{Sweeping}
use Rattle.jacobi.proofs.sweeps.sweeps.Given as goal

abbrev pub invariant-loop-it_num : goal.invariant-loop-it_num
invariant-loop-it_num l = Sweeping l.limit l.initial.work l.work l.bw (upto 0 l.limit (step dual_algebra l.initial.work.n) (run_of l.initial.work l.initial.bw 0)) l.it_num
