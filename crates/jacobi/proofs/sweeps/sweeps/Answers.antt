-- The loop keeps: what is left to sweep gives the whole run; a run that has settled stays so.
use borrow.Author.Rules.{rules}
use mathlib.Core.Path.{sym, ◌∙◌}
use Rattle.jacobi.proofs.Swept.{sweeps_turn, sweeps_stop, sweeps_end}
use Rattle.jacobi.proofs.sweeps.sweeps.Goals as goal

-- the threshold is zero: the run ends with what the sweeps before left
pub returns-then-is_break-clause-eigen_after : goal.returns-then-is_break-clause-eigen_after
returns-then-is_break-clause-eigen_after c =
    let k = c.loop-it_num.invariant in
    sweeps_stop _ _ _ _ _ _ k _ _ _ c.loop-it_num-test.true (rw k.same.n at c.step.ensures.run_after) (sym c.is_break.ensures ∙ c.if-is_break.true)

-- a sweep was made: what it left is what the next starts from
pub loop-it_num-preserved : goal.loop-it_num-preserved
loop-it_num-preserved c =
    let k = c.loop-it_num.invariant in
    let t = c.step.ensures in
    sweeps_turn _ _ _ _ _ _ k _ _ _ c.loop-it_num-test.true (rw k.same.n at t.run_after) (sym c.is_break.ensures ∙ c.if-is_break.false) t.few (search rules) t.same

pub returns-clause-eigen_after : goal.returns-clause-eigen_after
returns-clause-eigen_after c = sweeps_end _ _ _ _ _ _ c.loop-it_num.invariant c.loop-it_num-test.false
