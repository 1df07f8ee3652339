-- Only a NaN differs from itself: it leaves as 7ff8000000000000, every other float as its bits. Assumes nothing.
use mathlib.Core.Path.{◌≡◌, refl, sym, subst}
use lib.Dec.{T}
use lib.Ieee.{Float, to_bits, binary64}
use lib.Ieee.Compare.{differs_from_itself}
use Rattle.real.proofs.Nan.{equal_is_not}
use Rattle.real.proofs.word_of_float.Goals as goal

-- what differs from itself is the NaN
pub returns-then-x : goal.returns-then-x
unfolding to_bits
returns-then-x c =
    subst (λ (x : Float). 0x7ff8_0000_0000_0000 ≡ to_bits binary64 x)
    (sym (differs_from_itself c.args.x (subst T (sym c.if-x.true) tt))) refl

-- what equals itself is none
pub float_to_bits-result : goal.float_to_bits-result
float_to_bits-result c = equal_is_not c.args.x c.if-x.false
