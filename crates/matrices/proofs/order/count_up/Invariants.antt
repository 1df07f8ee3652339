-- The loop keeps: every entry passed holds its own place.
use lib.ListN.{length}
use Rattle.floats.proofs.Fill.{Filling}
use Rattle.matrices.proofs.order.count_up.Given as goal

abbrev pub invariant-loop-i : goal.invariant-loop-i
invariant-loop-i l = Filling 0 (λ k. k) (length l.initial.order) l.order l.i
