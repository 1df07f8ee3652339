-- The loop keeps: what was passed holds what its word says (Filling).
use borrow.Author.Rules.{rules}
use Rattle.floats.proofs.Fill.{filling_none, filling_more, filling_all}
use Rattle.replay_matrices.proofs.order_of.Goals as goal

pub returns : goal.returns
returns c = filling_all _ _ _ _ _ c.loop-i.invariant (search rules)
