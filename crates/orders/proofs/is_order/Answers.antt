-- The loop keeps: what has come is marked, and what is left decides (Walk).
use borrow.Author.Rules.{rules}
use Rattle.orders.proofs.Walk.{marking, mark_turn, mark_stop, mark_full}
use Rattle.orders.proofs.is_order.Goals as goal

pub loop-x-init : goal.loop-x-init
loop-x-init c = rw c.none-marks.ensures (marking _ _)

pub returns-then-x-order : goal.returns-then-x-order
returns-then-x-order c = search (rules, mark_stop)

pub loop-x-preserved : goal.loop-x-preserved
loop-x-preserved c = rw c.mark.ensures (mark_turn _ _ _ _ c.loop-x.invariant (search rules) (search rules) (search rules))

pub returns : goal.returns
returns c = search (rules, mark_full)
