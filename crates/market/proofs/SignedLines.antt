-- The float of an entry is a whole number of the entry's sign and magnitude, so that its line is the entry's. Assumes nothing.
use Prim.Native.Nat.{ℕ, ◌+◌, ◌*◌, ◌<◌, ◌≤◌}
use mathlib.Core.Path.{◌≡◌, refl, ap, ◌∙◌}
use mathlib.Core.Bool.{Bool, true, false, cond, true≢false}
use mathlib.Core.List.{[]}
use native.Mathlib.Nat.{mul-pos, mul-le-mul_right}
use native.Mathlib.Omega.{arith}
use lib.Dec.{T, le→leb}
use lib.IntN.{pos}
use lib.Ieee.{Float, nan, inf, fin, binary64, up, down, neg, lt, eq, of_int, of_bits, in_float}
use lib.Ieee.Fits.{down_pos}
use lib.Ieee.Exact.{HasValue}
use lib.Ieee.Back.{unsigned_back}
use borrow.Author.Tests.{lt-ltb, le-ltb, le-leb, eq-eqb}
use Rattle.refusals.specs.Largest as largest
use Rattle.real.specs.Operations as float
use Rattle.market.specs.Format.{signed}
use Rattle.market.specs.Text.{magnitude, whole_part, is_whole_magnitude, is_whole, number_line, line_of}
use Rattle.market.proofs.WholeFloats.{plus_nothing, zero_is, has_value}

neg_back : (x : Float) → neg (neg x) ≡ x
unfolding neg
neg_back nan = refl
neg_back (inf true) = refl
neg_back (inf false) = refl
neg_back (fin true m e) = refl
neg_back (fin false m e) = refl

-- ---- a float y whose value is v
module _ (v : ℕ) where
  not_below : (y : Float) → HasValue y false v 1 → lt y plus_nothing ≡ false
  unfolding lt
  not_below nan h = elim h [ ]
  not_below (inf _) h = elim h [ ]
  not_below (fin true m e) h = absurd (true≢false h.0)
  not_below (fin false m e) h = le-ltb (m * up e * down (pos 0)) (0 * up (pos 0) * down e) (let z : 0 * up (pos 0) * down e ≡ 0 = omega arith in omega arith)

  minus_below : (y : Float) → HasValue y false v 1 → 0 < v → lt (neg y) plus_nothing ≡ true
  unfolding lt neg
  minus_below nan h some = elim h [ ]
  minus_below (inf _) h some = elim h [ ]
  minus_below (fin true m e) h some = absurd (true≢false h.0)
  minus_below (fin false m e) h some = let g : 0 < v * down e = mul-pos some (down_pos e) in let q = h.1 in lt-ltb 0 (m * up e * down (pos 0) + 0 * up (pos 0) * down e) (omega arith)

  above_minus_one : (y : Float) → HasValue y false v 1 → lt (neg (of_bits binary64 0x3ff0_0000_0000_0000)) y ≡ true
  unfolding lt neg of_bits
  above_minus_one nan h = elim h [ ]
  above_minus_one (inf _) h = elim h [ ]
  above_minus_one (fin true m e) h = absurd (true≢false h.0)
  above_minus_one (fin false m e) h = let g = down_pos e in lt-ltb 0 (1 * up (pos 0) * down e + m * up e * down (pos 0)) (omega arith)

  below_top : (y : Float) → HasValue y false v 1 → v ≤ largest.whole → lt y (of_bits binary64 0x43f0_0000_0000_0000) ≡ true
  unfolding lt of_bits
  below_top nan h small = elim h [ ]
  below_top (inf _) h small = elim h [ ]
  below_top (fin true m e) h small = absurd (true≢false h.0)
  below_top (fin false m e) h small =
      let g = down_pos e in
      let q = h.1 in
      let l : v * down e ≤ largest.whole * down e = mul-le-mul_right (down e) small in
      lt-ltb (m * up e * down (pos 64)) (1 * up (pos 64) * down e) (omega arith)

  itself : (y : Float) → HasValue y false v 1 → eq y y ≡ true
  unfolding eq
  itself nan h = elim h [ ]
  itself (inf _) h = elim h [ ]
  itself (fin true m e) h = absurd (true≢false h.0)
  itself (fin false m e) h = rw (eq-eqb (m * up e * down e) (m * up e * down e) refl)

-- ---- the float of v
module _ (v : ℕ) (small : v ≤ largest.whole) where
  abbrev whole : Float
  whole = of_int binary64 (pos v)

  has : HasValue whole false v 1
  has = has_value v small

  in_float_lem : T (in_float binary64 (pos v))
  unfolding in_float
  in_float_lem = le→leb v largest.whole small

  part_is : whole_part whole ≡ v
  part_is = (unsigned_back binary64 64 v in_float_lem (omega arith)).1

  whole_magnitude : is_whole_magnitude whole ≡ true
  unfolding is_whole_magnitude
  whole_magnitude = rw (above_minus_one v whole has, below_top v whole has small, part_is, le-leb v largest.whole small, itself v whole has)

  -- with a minus only where it is not zero
  module _ (minus : Bool) (some : minus ≡ true → 0 < v) where
    sign_is : lt (signed minus v) float.zero ≡ minus
    unfolding signed
    sign_is = by minus some
      where
        by : (t : Bool) → (t ≡ true → 0 < v) → lt (signed t v) float.zero ≡ t
        by true s = rw (lt-ltb 0 v (s refl), zero_is) (minus_below v whole has (s refl))
        by false s = ap (lt whole) zero_is ∙ not_below v whole has

    magnitude_is : magnitude (signed minus v) ≡ whole
    unfolding signed magnitude
    magnitude_is = ap (λ (t : Bool). cond t (neg (signed minus v)) (signed minus v)) sign_is ∙ by minus some
      where
        by : (t : Bool) → (t ≡ true → 0 < v) → cond t (neg (signed t v)) (signed t v) ≡ whole
        by true s = rw (lt-ltb 0 v (s refl)) (neg_back whole)
        by false s = refl

    pub signed_whole : is_whole (signed minus v) ≡ true
    signed_whole = ap is_whole_magnitude magnitude_is ∙ whole_magnitude

    pub signed_line : line_of (signed minus v) ≡ number_line minus v
    unfolding line_of
    signed_line =
        ap (λ (t : Bool). cond t (number_line (lt (signed minus v) float.zero) (whole_part (magnitude (signed minus v)))) []) signed_whole
        ∙ (λ i. number_line (sign_is i) ((ap whole_part magnitude_is ∙ part_is) i))
