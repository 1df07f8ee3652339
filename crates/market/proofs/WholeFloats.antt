-- A float as a whole number: what the test of it says, and the value of a whole number's float. Assumes nothing.
use Prim.Native.Nat.{ℕ, ◌≤◌}
use mathlib.Core.Path.{◌≡◌, refl, ap}
use mathlib.Core.Bool.{true, false, ◌&&◌}
use lib.Dec.{leb}
use lib.IntN.{pos}
use lib.Ieee.{Float, fin, binary64, round, neg, lt, eq, of_int, of_bits}
use lib.Ieee.Exact.{HasValue}
use lib.Ieee.Back.{round_whole}
use borrow.Author.Tests.{leb-true}
use Rattle.refusals.specs.Largest as largest
use Rattle.real.specs.Operations as float
use Rattle.texts.proofs.Every.{both_true}
use Rattle.market.specs.Format.{signed}
use Rattle.market.specs.Text.{magnitude, whole_part, in_range, is_whole_magnitude, is_whole}

-- +0.0, by its sign, its digits and its exponent
abbrev pub plus_nothing : Float
plus_nothing = fin false 0 (pos 0)

pub zero_is : float.zero ≡ plus_nothing
unfolding of_bits
zero_is = refl

-- what a whole number is read back as: its magnitude with its sign, -0 as +0
abbrev pub back_of : Float → Float
back_of x = signed (lt x float.zero) (whole_part (magnitude x))

module _ (x : Float) where
  pub magnitude_minus : lt x float.zero ≡ true → neg x ≡ magnitude x
  unfolding magnitude
  magnitude_minus e = rw e

  pub magnitude_plain : lt x float.zero ≡ false → x ≡ magnitude x
  unfolding magnitude
  magnitude_plain e = rw e

-- ---- a float that passes
module _ (x : Float) (e : is_whole x ≡ true) where
  parts : (leb (whole_part (magnitude x)) largest.whole ≡ true) × (eq (of_int binary64 (pos (whole_part (magnitude x)))) (magnitude x) ≡ true)
  unfolding is_whole_magnitude
  parts = both_true (leb (whole_part (magnitude x)) largest.whole) (eq (of_int binary64 (pos (whole_part (magnitude x)))) (magnitude x)) (both_true (in_range (magnitude x)) (leb (whole_part (magnitude x)) largest.whole && eq (of_int binary64 (pos (whole_part (magnitude x)))) (magnitude x)) e).1

  pub whole_small : whole_part (magnitude x) ≤ largest.whole
  whole_small = leb-true (whole_part (magnitude x)) largest.whole parts.0

  pub whole_same : eq (of_int binary64 (pos (whole_part (magnitude x)))) (magnitude x) ≡ true
  whole_same = parts.1

-- ---- the float of a whole number
pub has_value : (v : ℕ) → v ≤ largest.whole → HasValue (of_int binary64 (pos v)) false v 1
unfolding of_int
has_value v small = round_whole binary64 false v small

pub of_zero : (v : ℕ) → v ≡ 0 → of_int binary64 (pos v) ≡ plus_nothing
unfolding of_int round
of_zero v e = ap (λ (n : ℕ). of_int binary64 (pos n)) e
