-- From a bit pattern to the number that the root is taken of, and from the root's digits to its bit pattern. Assumes nothing.
use mathlib.Core.Path.{◌≡◌, refl, sym, ap, ◌∙◌, subst}
use Prim.Native.Nat.{ℕ, zero, suc, ◌+◌, ◌-◌, ◌*◌, ◌/◌, ◌%◌, ◌^◌, ◌≤◌, ◌<◌}
use native.Mathlib.Nat.{le_trans, le_of_eq, le_of_lt, lt_of_lt_of_le, lt_of_le_of_lt, not-le_of_lt, le_of_suc-le-suc, mod-lt, mod-eq_of_lt, mul_assoc, mul_comm, mul_right_comm, mul-one, mul-le-mul_right, mul-lt-mul_of_pos_right, mul-div_cancel, zero-add, zero-mul, mul-pos, div-lt_iff_lt-mul}
use native.Mathlib.Omega.{arith}
use mathlib.Core.Bool.{Bool, true, false, not, ◌&&◌, cond, true≢false}
use lib.IntN.{ℤ, pos}
use lib.Dec.{T, lit≤, leb, ltb, eqb, leb→le, eqb→eq, ltb→lt, lt→ltb, not_T}
use lib.Pow.{pow-add, pow_pos, pow_mono, shl_lt}
use lib.Count.{count_trailing_zeros, count_leading_zeros, leading_top}
use lib.Ieee.{Float, nan, inf, fin, Format, binary64, prec, emax, low, up, down, minus, size, odd, units, hid, top, fits, of_fields, of_bits, to_bits, nan_bits}
use lib.Ieee.Digits.{Equals, odd_val, size-le}
use lib.Ieee.Fits.{down_pos, odd-fits, kept-lt, and_r, two, two-le_pos}
use lib.Ieee.Bits.{is_true, is_false, cond_no, of_bits-to_bits, nan_bits_above}
use lib.Ieee.Exact.{HasValue, odd_sign}
use Rattle.real.specs.Root.{root, root_of}
use Rattle.real.proofs.Squares.{square_lt, square_suc}
use Rattle.real.proofs.NearUnits.{pow_lt_back, kept_size, root_near}

-- ---- what the pattern of a positive finite f64 is read as

of_bits_is : (b : ℕ) → of_bits binary64 b ≡ of_fields binary64 (leb 9223372036854775808 b) (b % 9223372036854775808 / 4503599627370496) (b % 4503599627370496)
unfolding of_bits
of_bits_is b = refl

positive : (b : ℕ) → b < 9218868437227405312 → of_bits binary64 b ≡ of_fields binary64 false (b / 4503599627370496) (b % 4503599627370496)
positive b h =
    of_bits_is b
    ∙ ap (λ (s : Bool). of_fields binary64 s (b % 9223372036854775808 / 4503599627370496) (b % 4503599627370496)) (is_false (leb 9223372036854775808 b) (not_T (leb 9223372036854775808 b) (λ (u : T (leb 9223372036854775808 b)). not-le_of_lt (small b h) (leb→le 9223372036854775808 b u))))
    ∙ ap (λ (x : ℕ). of_fields binary64 false (x / 4503599627370496) (b % 4503599627370496)) (mod-eq_of_lt (small b h))
  where
    small : (b : ℕ) → b < 9218868437227405312 → b < 9223372036854775808
    small b h = omega arith

differ : (x : ℕ) → suc x < 2047 → suc x ≡ 2047 → ⊥
differ x h e = omega arith

under_ones : (t x : ℕ) → suc x < 2047 → of_fields binary64 false (suc x) t ≡ odd 53 false (4503599627370496 + t) x 1074
unfolding of_fields
under_ones t x h = cond_no (eqb (suc x) 2047) (cond (eqb t 0) (inf false) nan) (odd 53 false (4503599627370496 + t) x 1074) (not_T (eqb (suc x) 2047) (λ (u : T (eqb (suc x) 2047)). differ x h (eqb→eq (suc x) 2047 u)))

at_zero : (t : ℕ) → of_fields binary64 false 0 t ≡ odd 53 false t 0 1074
unfolding of_fields
at_zero t = refl

pub normal : (b : ℕ) → 0 < b / 4503599627370496 → b < 9218868437227405312 → of_bits binary64 b ≡ odd 53 false (4503599627370496 + b % 4503599627370496) (b / 4503599627370496 - 1) 1074
normal b h k =
    positive b k
    ∙ ap (λ (x : ℕ). of_fields binary64 false x (b % 4503599627370496)) (sym (field (b / 4503599627370496) h))
    ∙ under_ones (b % 4503599627370496) (b / 4503599627370496 - 1) (field_lt b h k)
  where
    field : (x : ℕ) → 0 < x → suc (x - 1) ≡ x
    field x g = omega arith

    field_lt : (b : ℕ) → 0 < b / 4503599627370496 → b < 9218868437227405312 → suc (b / 4503599627370496 - 1) < 2047
    field_lt b h k = omega arith

pub subnormal : (b : ℕ) → b / 4503599627370496 ≡ 0 → of_bits binary64 b ≡ odd 53 false (b % 4503599627370496) 0 1074
subnormal b h =
    positive b (small b h)
    ∙ ap (λ (x : ℕ). of_fields binary64 false x (b % 4503599627370496)) h
    ∙ at_zero (b % 4503599627370496)
  where
    small : (b : ℕ) → b / 4503599627370496 ≡ 0 → b < 9218868437227405312
    small b h = omega arith

-- ---- the same value by a finer unit
pub finer : (x : Float) (s : Bool) (w l z : ℕ) → HasValue x s w l → HasValue x s (w * z) (l * z)
finer nan s w l z v = v
finer (inf t) s w l z v = v
finer (fin t m e) s w l z v = (v.0, sym (mul_assoc (m * up e) l z) ∙ ap (λ (y : ℕ). y * z) v.1 ∙ mul_right_comm w (down e) z)

-- a * 2 ^ e of 2 ^ -1126 is q * 2 ^ x of 2 ^ -1074
pub in_units : (q k a e : ℕ) → q * 2 ^ k * 2 ^ 52 ≡ a * 2 ^ e → HasValue (odd 53 false q k 1074) false (a * 2 ^ e) (2 ^ 1126)
in_units q k a e h =
    subst (λ (w : ℕ). HasValue (odd 53 false q k 1074) false w (2 ^ 1126)) h
    (subst (λ (l : ℕ). HasValue (odd 53 false q k 1074) false (q * 2 ^ k * 2 ^ 52) l) (sym (pow-add 2 1074 52))
    (finer (odd 53 false q k 1074) false (q * 2 ^ k) (2 ^ 1074) (2 ^ 52) (odd_sign 53 false q k 1074)))

-- ---- the root of such a value
module _ (l z t : ℕ) (T-is : t ≡ l * z) where
  pub whole_part_lem : (m u d w : ℕ) → 0 < d → m * u * l ≡ w * d → m * u * t / d ≡ w * z
  whole_part_lem m u d w D h =
      ap (λ (x : ℕ). x / d) (ap (λ (x : ℕ). m * u * x) T-is ∙ sym (mul_assoc (m * u) l z) ∙ ap (λ (x : ℕ). x * z) h ∙ mul_right_comm w d z)
      ∙ mul-div_cancel (w * z) D

pub root_value : (x : Float) (w : ℕ) → HasValue x false w (2 ^ 1126) → root_of binary64 x ≡ root binary64 (w * 2 ^ 1022)
unfolding root_of
root_value nan w v = absurd v
root_value (inf true) w v = absurd v
root_value (inf false) w v = absurd v
root_value (fin true zero e) w v = absurd (true≢false v.0)
root_value (fin true (suc m) e) w v = absurd (true≢false v.0)
root_value (fin false m e) w v = ap (root binary64) (whole_part_lem (2 ^ 1126) (2 ^ 1022) (2 ^ 2148) (pow-add 2 1126 1022) m (up e) (down e) w (down_pos e) v.1)

-- ---- the pattern of r * 2 ^ k units, for an r of as many digits as the format keeps

pub to_bits_is : (f : Format) (s : Bool) (m : ℕ) (e : ℤ) (n : ℕ) → m * up e * 2 ^ low f / down e ≡ n
    → to_bits f (fin s m e) ≡ cond s (top f) 0 + (size n - prec f) * hid f + n / 2 ^ (size n - prec f)
unfolding to_bits
to_bits_is f s m e n p = ap (λ (x : ℕ). cond s (top f) 0 + (size x - prec f) * hid f + x / 2 ^ (size x - prec f)) p

to_bits_val : (f : Format) (s : Bool) (m : ℕ) (e : ℤ) (a : ℕ) → Equals (fin s m e) a (2 ^ low f) → to_bits f (fin s m e) ≡ cond s (top f) 0 + (size a - prec f) * hid f + a / 2 ^ (size a - prec f)
to_bits_val f s m e a h = to_bits_is f s m e a (ap (λ (x : ℕ). x / down e) h ∙ mul-div_cancel a (down_pos e))

to_bits_odd : (f : Format) (d : ℕ) (s : Bool) (q k : ℕ) → to_bits f (odd d s q k (low f)) ≡ cond s (top f) 0 + (size (q * 2 ^ k) - prec f) * hid f + q * 2 ^ k / 2 ^ (size (q * 2 ^ k) - prec f)
unfolding odd
to_bits_odd f d s zero k = to_bits_val f s 0 (pos 0) (0 * 2 ^ k) (odd_val d s zero k (low f))
to_bits_odd f d s (suc q) k =
    to_bits_val f s (suc q / 2 ^ count_trailing_zeros d (suc q)) (minus (k + count_trailing_zeros d (suc q)) (low f)) (suc q * 2 ^ k) (odd_val d s (suc q) k (low f))

pub units_is : (f : Format) (q k : ℕ) → q * 2 ^ k < 2 ^ (low f + suc (emax f)) → units f false q k ≡ odd (suc (prec f)) false q k (low f)
unfolding units
units_is f q k h = ap (λ (b : Bool). cond b (odd (suc (prec f)) false q k (low f)) (inf false)) (is_true (ltb (q * 2 ^ k) (2 ^ (low f + suc (emax f)))) (lt→ltb (q * 2 ^ k) (2 ^ (low f + suc (emax f))) h))

pub written : (f : Format) (r k : ℕ) → hid f ≤ r → r < 2 ^ prec f → r * 2 ^ k < 2 ^ (low f + suc (emax f)) → of_bits f (k * hid f + r) ≡ units f false r k
written f r k lo hi fine =
    let v = odd (suc (prec f)) false r k (low f) in
    let z : size (r * 2 ^ k) - prec f ≡ k = kept_size (prec f) k (r * 2 ^ k) (two-le_pos (prec f) (two f)) (mul-le-mul_right (2 ^ k) lo) (mul-lt-mul_of_pos_right hi (pow_pos k)) in
    let bits : to_bits f v ≡ k * hid f + r =
    to_bits_odd f (suc (prec f)) false r k
    ∙ ap (λ (x : ℕ). 0 + x * hid f + r * 2 ^ k / 2 ^ x) z
    ∙ ap (λ (x : ℕ). x + r * 2 ^ k / 2 ^ k) (zero-add (k * hid f))
    ∙ ap (λ (x : ℕ). k * hid f + x) (mul-div_cancel r (pow_pos k)) in
    ap (of_bits f) (sym bits)
    ∙ of_bits-to_bits f v (odd-fits f (suc (prec f)) false r k (lt_of_lt_of_le hi (pow_mono (more (prec f)))) (le_of_lt hi) fine)
    ∙ sym (units_is f r k fine)
  where
    more : (p : ℕ) → p ≤ suc p
    more p = omega arith

-- below the infinity's pattern there is no NaN
pub no_nan : (n : ℕ) → n < 9218868437227405312 → T (not (nan_bits binary64 n))
no_nan n h = subst (λ (b : Bool). T (not b)) (sym (nan_bits_above binary64 n)) (not_T (ltb 9218868437227405312 (n % 9223372036854775808)) (λ (u : T (ltb 9218868437227405312 (n % 9223372036854775808))). absurd (clash n h (ltb→lt 9218868437227405312 (n % 9223372036854775808) u))))
  where
    clash : (n : ℕ) → n < 9218868437227405312 → 9218868437227405312 < n % 9223372036854775808 → ⊥
    clash n a b = omega arith

-- ---- `scale`: a pattern's value with a significand of 53 digits
abbrev pub Scale : ℕ → ℕ → ℕ → Type 0
Scale b a e = (2 ^ 52 ≤ a) × (a < 2 ^ 53) × (e < 2098) × HasValue (of_bits binary64 b) false (a * 2 ^ e) (2 ^ 1126)

-- the shift of a subnormal significand, by its leading zeros
pub shift : (t : ℕ) → 0 < t → t < 2 ^ 52 → (11 ≤ count_leading_zeros 64 t) × (count_leading_zeros 64 t - 11 ≤ 52) × (2 ^ 52 ≤ t * 2 ^ (count_leading_zeros 64 t - 11)) × (t * 2 ^ (count_leading_zeros 64 t - 11) < 2 ^ 53)
shift t p h =
    let l = leading_top 64 t p (lt_of_lt_of_le h (pow_mono {i = 52} {j = 64} (lit≤ tt))) in
    let j = l.0 in
    let z = count_leading_zeros 64 t in
    let e : z + suc j ≡ 64 = l.1 in
    let below : j < 52 = pow_lt_back j 52 (lt_of_le_of_lt l.2 h) in
    let lo : j + (z - 11) ≡ 52 = omega arith in
    let hi : suc j + (z - 11) ≡ 53 = omega arith in (
      omega arith,
      omega arith,
      le_trans (le_of_eq (ap (λ (x : ℕ). 2 ^ x) (sym lo) ∙ pow-add 2 j (z - 11))) (mul-le-mul_right (2 ^ (z - 11)) l.2),
      subst (λ (x : ℕ). t * 2 ^ (z - 11) < 2 ^ x) hi (shl_lt (suc j) (z - 11) l.3),
    )

pub scale_low : (b : ℕ) → 0 < b → b / 4503599627370496 ≡ 0 →
    Scale b (b % 4503599627370496 * 2 ^ (count_leading_zeros 64 (b % 4503599627370496) - 11) % 18446744073709551616) (52 - (count_leading_zeros 64 (b % 4503599627370496) - 11))
scale_low b p z =
    let t = b % 4503599627370496 in
    let n = count_leading_zeros 64 t - 11 in
    let s = shift t (some b p z) (mod-lt b (pow_pos 52)) in
    let whole : t * 2 ^ n % 18446744073709551616 ≡ t * 2 ^ n = mod-eq_of_lt (lt_of_lt_of_le s.3 (pow_mono {i = 53} {j = 64} (lit≤ tt))) in
    let join : n + (52 - n) ≡ 52 = over n s.1 in
    subst (λ (a : ℕ). Scale b a (52 - n)) (sym whole) (
      s.2,
      s.3,
      small n,
      subst (λ (x : Float). HasValue x false (t * 2 ^ n * 2 ^ (52 - n)) (2 ^ 1126)) (sym (subnormal b z))
          (in_units t 0 (t * 2 ^ n) (52 - n)
          (ap (λ (x : ℕ). x * 2 ^ 52) (mul-one t) ∙ ap (λ (x : ℕ). t * 2 ^ x) (sym join) ∙ ap (λ (x : ℕ). t * x) (pow-add 2 n (52 - n)) ∙ sym (mul_assoc t (2 ^ n) (2 ^ (52 - n))))),
    )
  where
    some : (b : ℕ) → 0 < b → b / 4503599627370496 ≡ 0 → 0 < b % 4503599627370496
    some b p z = omega arith

    over : (n : ℕ) → n ≤ 52 → n + (52 - n) ≡ 52
    over n h = omega arith

    small : (n : ℕ) → 52 - n < 2098
    small n = omega arith

pub scale_high : (b : ℕ) → b < 9218868437227405312 → (b / 4503599627370496 ≡ 0 → ⊥) → Scale b (4503599627370496 + b % 4503599627370496) (b / 4503599627370496 + 51)
scale_high b h z =
    let t = b % 4503599627370496 in
    let x = b / 4503599627370496 in
    let up : 0 < x = above x z in (
      omega arith,
      omega arith,
      omega arith,
      subst (λ (v : Float). HasValue v false ((4503599627370496 + t) * 2 ^ (x + 51)) (2 ^ 1126)) (sym (normal b up h))
          (in_units (4503599627370496 + t) (x - 1) (4503599627370496 + t) (x + 51)
          (mul_assoc (4503599627370496 + t) (2 ^ (x - 1)) (2 ^ 52) ∙ ap (λ (y : ℕ). (4503599627370496 + t) * y) (sym (pow-add 2 (x - 1) 52) ∙ ap (λ (y : ℕ). 2 ^ y) (join x up)))),
    )
  where
    above : (x : ℕ) → (x ≡ 0 → ⊥) → 0 < x
    above x g = omega arith

    join : (x : ℕ) → 0 < x → x - 1 + 52 ≡ x + 51
    join x g = omega arith

-- ---- `even`
pub even_yes : (a e : ℕ) → e % 2 ≡ 0 → a ≡ a * 2 ^ (e % 2)
even_yes a e h = sym (ap (λ (x : ℕ). a * 2 ^ x) h ∙ mul-one a)

pub even_no : (a e : ℕ) → (e % 2 ≡ 0 → ⊥) → 2 * a ≡ a * 2 ^ (e % 2)
even_no a e h = mul_comm 2 a ∙ ap (λ (x : ℕ). a * 2 ^ x) (sym (one e h))
  where
    one : (e : ℕ) → (e % 2 ≡ 0 → ⊥) → e % 2 ≡ 1
    one e h = omega arith

-- ---- `root_bits`
pub split : (a e z s k : ℕ) → e + z ≡ e % 2 + s + (k + k) → a * 2 ^ e * 2 ^ z ≡ a * 2 ^ (e % 2) * 2 ^ s * (2 ^ k * 2 ^ k)
split a e z s k h =
    mul_assoc a (2 ^ e) (2 ^ z)
    ∙ ap (λ (x : ℕ). a * x) (sym (pow-add 2 e z) ∙ ap (λ (x : ℕ). 2 ^ x) h ∙ pow-add 2 (e % 2 + s) (k + k) ∙ ap (λ (x : ℕ). 2 ^ (e % 2 + s) * x) (pow-add 2 k k) ∙ ap (λ (x : ℕ). x * (2 ^ k * 2 ^ k)) (pow-add 2 (e % 2) s))
    ∙ sym (mul_assoc a (2 ^ (e % 2) * 2 ^ s) (2 ^ k * 2 ^ k))
    ∙ ap (λ (x : ℕ). x * (2 ^ k * 2 ^ k)) (sym (mul_assoc a (2 ^ (e % 2)) (2 ^ s)))

module _ (b a e A r : ℕ) (s : Scale b a e) (lo : 2 ^ 52 ≤ A) (hi : A + 1 < 2 ^ 54) (is : A ≡ a * 2 ^ (e % 2)) (near : r * r < A * 2 ^ 52 + r) (far : A * 2 ^ 52 ≤ r * r + r) (short : r < 2 ^ 53) where
  exponent : e < 2098
  exponent = s.2

  bits_in : (485 + e / 2) * 4503599627370496 + r < 9218868437227405312
  bits_in = omega (arith, exponent)

  pub leading : 4503599627370496 ≤ r
  leading = le_of_suc-le-suc (subst (λ (x : ℕ). 4503599627370496 < x) (one r) (square_lt 4503599627370496 (r + 1) (omega (arith, square_suc r))))
    where
      one : (n : ℕ) → n + 1 ≡ suc n
      one n = omega arith

  pub the_root : root_of binary64 (of_bits binary64 b) ≡ units binary64 false r (485 + e / 2)
  the_root =
      root_value (of_bits binary64 b) (a * 2 ^ e) s.3
      ∙ ap (root binary64) (split a e 1022 52 (485 + e / 2) (halves e) ∙ ap (λ (x : ℕ). x * 2 ^ 52 * (2 ^ (485 + e / 2) * 2 ^ (485 + e / 2))) (sym is))
      ∙ root_near binary64 (A * 2 ^ 52) (485 + e / 2) (omega arith) (omega arith) r near far
    where
      halves : (e : ℕ) → e + 1022 ≡ e % 2 + 52 + (485 + e / 2 + (485 + e / 2))
      halves e = omega arith

  pub no_overflow : r * 2 ^ (485 + e / 2) < 2 ^ 2098
  no_overflow = lt_of_lt_of_le (shl_lt 53 (485 + e / 2) short) (pow_mono (within e exponent))
    where
      within : (e : ℕ) → e < 2098 → 53 + (485 + e / 2) ≤ 2098
      within e h = omega arith

  pub root_pattern : T (not (nan_bits binary64 ((485 + e / 2) * 4503599627370496 + r))) × (of_bits binary64 ((485 + e / 2) * 4503599627370496 + r) ≡ root_of binary64 (of_bits binary64 b))
  root_pattern = (
    no_nan ((485 + e / 2) * 4503599627370496 + r) bits_in,
    written binary64 r (485 + e / 2) leading short no_overflow ∙ sym the_root,
  )

-- ---- `sqrt`: which floats are answered without a root
-- a finite value's pattern is below the infinity's
bits_below : (m : ℕ) (e : ℤ) → m * up e < 2 ^ 1024 * down e → to_bits binary64 (fin false m e) < 9218868437227405312
bits_below m e h =
    let n = m * up e * 2 ^ 1074 / down e in
    let n-lt : n < 2 ^ 2098 =
    (div-lt_iff_lt-mul (down_pos e)).1
    (lt_of_lt_of_le (mul-lt-mul_of_pos_right h (pow_pos 1074)) (le_of_eq (mul_right_comm (2 ^ 1024) (down e) (2 ^ 1074) ∙ ap (λ (x : ℕ). x * down e) (sym (pow-add 2 1024 1074))))) in
    subst (λ (x : ℕ). x < 9218868437227405312) (sym (to_bits_is binary64 false m e n refl)) (sum (size n) (n / 2 ^ (size n - 53)) (size-le n 2098 n-lt) (kept-lt 53 n))
  where
    sum : (z q : ℕ) → z ≤ 2098 → q < 9007199254740992 → 0 + (z - 53) * 4503599627370496 + q < 9218868437227405312
    sum z q a b = omega arith

pub magnitude : (m : ℕ) (e : ℤ) → T (fits binary64 (fin false m e)) → m * up e < 2 ^ 1024 * down e
unfolding fits
magnitude zero e h = subst (λ (x : ℕ). x < 2 ^ 1024 * down e) (sym (zero-mul (up e))) (mul-pos (pow_pos 1024) (down_pos e))
magnitude (suc m) e h =
    ltb→lt (suc m * up e) (2 ^ 1024 * down e)
    (and_r (eqb (suc m % 2) 1 && ltb (suc m) (2 ^ 53) && leb (down e) (2 ^ 1074)) (ltb (suc m * up e) (2 ^ 1024 * down e)) h)

pub finite_bits : (m : ℕ) (e : ℤ) → T (fits binary64 (fin false m e)) → to_bits binary64 (fin false m e) < 9218868437227405312
finite_bits m e h = bits_below m e (magnitude m e h)
