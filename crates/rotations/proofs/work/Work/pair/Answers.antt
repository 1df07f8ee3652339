-- Each arm of the match is a case of the definition's choice, which was made from the entry and the two diagonal entries as they were.
use borrow.Author.Rules.{rules}
use Rattle.dual.specs.Rules.{dual_algebra}
use Rattle.rotations.proofs.Turned.{pair_keep, pair_clear, pair_rotate}
use Rattle.rotations.proofs.work.Work.pair.Goals as goal

-- kept: all is as it was
pub returns-in-Keep-clause-work_after : goal.returns-in-Keep-clause-work_after
returns-in-Keep-clause-work_after c = pair_keep dual_algebra _ _ _ _ _ _ _ _ _ _ _ _ _ _ (record { entry = search rules; first = search rules; second = search rules }) c.choice.ensures c.in-Keep.is

-- cleared: the entry alone is zero
pub returns-in-Clear-clause-work_after : goal.returns-in-Clear-clause-work_after
returns-in-Clear-clause-work_after c = pair_clear dual_algebra _ _ _ _ _ _ _ _ _ _ _ _ _ _ (record { entry = search rules; first = search rules; second = search rules }) c.choice.ensures _ c.in-Clear.is (rw c.zero.ensures at c.put.ensures.a_after)

-- rotated: by the angle of the three entries
pub returns-in-Rotate-clause-work_after : goal.returns-in-Rotate-clause-work_after
returns-in-Rotate-clause-work_after c = pair_rotate dual_algebra _ _ _ _ _ _ _ _ _ _ _ _ _ _ (record { entry = search rules; first = search rules; second = search rules }) c.choice.ensures _ _ c.in-Rotate.is c.angle.ensures c.rotate.ensures.work_after
