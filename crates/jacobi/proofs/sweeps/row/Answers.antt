-- The loop keeps: what is left gives the whole, and no more has rotated than each turn may.
use borrow.Author.Rules.{rules}
use Rattle.jacobi.specs.Sweeps.{row}
use Rattle.jacobi.proofs.Swept.{work_turn, work_end}
use Rattle.jacobi.proofs.sweeps.row.Goals as goal

-- before the first turn the whole is left
pub loop-q-init : goal.loop-q-init
unfolding row
loop-q-init c = record { from = search rules; within = search rules; few = search rules; same = search rules; rest = search rules }

-- a turn is made on work of the size that the first had
pub loop-q-preserved : goal.loop-q-preserved
loop-q-preserved c =
    let k = c.loop-q.invariant in
    let t = c.pair.ensures in
    work_turn _ _ _ _ _ _ _ k _ c.loop-q-test.true t.same (rw k.same.n at t.work_after) t.few

pub returns-clause-work_after : goal.returns-clause-work_after
returns-clause-work_after c = work_end _ _ _ _ _ _ _ c.loop-q.invariant c.loop-q-test.false
