-- Each way out is a case of the definition's one test, on the threshold: a zero one stops, else the sweep is made and closed.
use borrow.Author.Rules.{rules}
use Rattle.dual.specs.Rules.{dual_algebra}
use Rattle.jacobi.proofs.Swept.{step_stops, step_sweeps}
use Rattle.jacobi.proofs.sweeps.step.Goals as goal

pub returns-then-thresh-clause-run_after : goal.returns-then-thresh-clause-run_after
returns-then-thresh-clause-run_after c = search (rules, step_stops dual_algebra)

pub returns-clause-run_after : goal.returns-clause-run_after
returns-clause-run_after c =
    let s = c.sweep.ensures in
    let e = rw s.same.n at c.close_sweep.ensures in
    step_sweeps dual_algebra _ _ _ _ _ _ _ _ _ _ c.threshold-thresh.ensures _ _ _ _ _ _ _ _ c.if-thresh.false s.work_after e.bw_after e.d_after e.zw_after
