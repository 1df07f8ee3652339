-- A pattern of a NaN gives the one NaN; every other is the float of its bits. Assumes nothing.
use mathlib.Core.Path.{sym}
use lib.Ieee.{div, of_bits}
use Rattle.real.proofs.Nan.{above_is_nan, rest_is_not}
use Rattle.real.proofs.float_of_word.Goals as goal

-- a pattern above infinity's is a NaN
pub returns-then-w-gt9218868437227405312 : goal.returns-then-w-gt9218868437227405312
unfolding div of_bits
returns-then-w-gt9218868437227405312 c = sym (above_is_nan c.args.w c.if-w-gt9218868437227405312.true)

-- every other is none
pub float_from_bits-result : goal.float_from_bits-result
float_from_bits-result c = rest_is_not c.args.w c.if-w-gt9218868437227405312.false
