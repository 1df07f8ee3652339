-- The leading zeros leave the number's digits; what is shifted does not reach the word's end. Assumes nothing.
use native.Mathlib.Omega.{arith}
use Rattle.rootsteps.proofs.Scaling.{zeros_few, shift_there, scaled_is, exponent_is}
use Rattle.rootsteps.proofs.start.scale.Goals as goal

pub overflow_sub-shift : goal.overflow_sub-shift
overflow_sub-shift c = shift_there _ _ c.requires

pub returns : goal.returns
returns c = (scaled_is _ _ c.requires, exponent_is _ _ c.requires)
