-- The two cases of the sign are the two cases of the definition. Assumes nothing.
use Rattle.real.proofs.SignBit.{yes, no}
use Rattle.real.specs.Sign.{abs_of}
use Rattle.real.proofs.abs.Goals as goal

-- negative: the sign is cleared
pub returns-then-is_negative : goal.returns-then-is_negative
unfolding abs_of
returns-then-is_negative c = yes _ _ c.is_negative.ensures c.if-is_negative.true

-- else x itself
pub returns-else-is_negative : goal.returns-else-is_negative
unfolding abs_of
returns-else-is_negative c = no _ _ c.is_negative.ensures c.if-is_negative.false
