-- The loop keeps: what has come is marked, and what is left decides (Walk).
use lib.ListN.{length}
use Rattle.orders.proofs.Walk.{Marking}
use Rattle.orders.proofs.is_order.Given as goal

abbrev pub invariant-loop-x : goal.invariant-loop-x
invariant-loop-x l = Marking (length l.order) l.order l.marks l.x-index
