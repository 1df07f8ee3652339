-- A NaN counts as positive; of any other float the top bit of its pattern is the sign. Assumes nothing.
use lib.Ieee.{binary64}
use borrow.Author.Rules.{rules}
use Rattle.real.proofs.SignBit.{sign_bit, nan_sign}
use Rattle.real.proofs.Nan.{equal_is_not}
use Rattle.real.proofs.is_negative.Goals as goal

-- a NaN has no sign bit
pub returns-then-x : goal.returns-then-x
returns-then-x c = nan_sign c.args.x c.if-x.true

-- what equals itself is no NaN
pub float_to_bits-result : goal.float_to_bits-result
float_to_bits-result c = equal_is_not c.args.x c.if-x.false

-- the top bit of a pattern is the sign
pub returns : goal.returns
returns c = sign_bit binary64 c.args.x (search rules) (equal_is_not c.args.x c.if-x.false)
