-- The loop keeps: what is left gives the whole, and no more has rotated than each turn may.
use borrow.Author.Rules.{rules}
use Rattle.jacobi.specs.Sweeps.{sweep}
use Rattle.jacobi.proofs.Swept.{work_turn, work_end}
use Rattle.jacobi.proofs.sweeps.sweep.Goals as goal

-- before the first turn the whole is left
pub loop-p-init : goal.loop-p-init
unfolding sweep
loop-p-init c = record { from = search rules; within = search rules; few = search rules; same = search rules; rest = search rules }

-- a turn is made on work of the size that the first had
pub loop-p-preserved : goal.loop-p-preserved
loop-p-preserved c =
    let k = c.loop-p.invariant in
    let t = c.row.ensures in
    work_turn _ _ _ _ _ _ _ k _ c.loop-p-test.true t.same (rw k.same.n at t.work_after) t.few

pub returns-clause-work_after : goal.returns-clause-work_after
returns-clause-work_after c = work_end _ _ _ _ _ _ _ c.loop-p.invariant c.loop-p-test.false
