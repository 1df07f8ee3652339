-- The loop keeps: what was passed holds what its word says (Filling).
use lib.ListN.{length, get_or}
use Rattle.floats.proofs.Fill.{Filling}
use Rattle.replay_matrices.proofs.order_of.Given as goal

abbrev pub invariant-loop-i : goal.invariant-loop-i
invariant-loop-i l = Filling 0 (λ k. get_or l.words k 0) (length l.initial.order) l.order l.i
