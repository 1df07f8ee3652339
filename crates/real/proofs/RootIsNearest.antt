-- `root_of` of a finite float above zero is the float nearest to its root. Assumes nothing.
use mathlib.Core.Path.{◌≡◌, refl, sym, ap, ◌∙◌, subst}
use mathlib.Core.Logic.{inl, inr}
use Prim.Native.Nat.{ℕ, zero, suc, ◌+◌, ◌-◌, ◌*◌, ◌/◌, ◌%◌, ◌^◌, ◌≤◌, ◌<◌}
use native.Mathlib.Nat.{lt_of_not-le, eq-zero-or-pos, lt_irrefl, mul-pos, zero-mul, zero-lt-suc}
use native.Mathlib.Omega.{arith}
use native.Mathlib.Decide.{dec_le}
use mathlib.Core.Bool.{true, false}
use lib.IntN.{ℤ}
use lib.Dec.{T, lt→ltb}
use lib.Ieee.{Float, nan, inf, fin, Format, binary64, up, down, units, fits, of_bits, to_bits, lt, eq}
use lib.Ieee.Fits.{down_pos, up_pos}
use lib.Ieee.Bits.{is_true, of_bits-to_bits}
use lib.Ieee.Exact.{HasValue}
use lib.Pow.{pow-add}
use Rattle.real.specs.Root.{root_of, whole_root}
use Rattle.real.specs.Nearest.{radicand, IsNearest}
use Rattle.real.proofs.Squares.{square_lt, square_suc, whole_root-is}
use Rattle.real.proofs.Rounded.{stays, moves, no_carry}
use Rattle.real.proofs.Patterns.{Scale, scale_low, scale_high, whole_part_lem, split, the_root, leading, no_overflow, finite_bits}
use Rattle.real.proofs.Ends.{above_bits, zero_root, level_zero}
use Rattle.real.proofs.Nearest.{units_nearest}

-- ---- the whole number nearest to the root of A * 2 ^ 52
abbrev Near : ℕ → ℕ → Type 0
Near A r = (r * r < A * 2 ^ 52 + r) × (A * 2 ^ 52 ≤ r * r + r) × (r < 2 ^ 53)

near_root : (A : ℕ) → 2 ^ 52 ≤ A → A + 1 < 2 ^ 54 → (r : ℕ) × Near A r
near_root A lo hi = go (dec_le rest q)
  where
    R : ℕ
    R = A * 2 ^ 52

    q : ℕ
    q = whole_root R

    rest : ℕ
    rest = R - q * q

    parts : q * q + rest ≡ R
    parts = omega (arith, (whole_root-is R).0)

    few : rest ≤ 2 * q
    few = omega (arith, (whole_root-is R).1, square_suc q)

    digits : q < 2 ^ 53
    digits = square_lt q (2 ^ 53) (omega (arith, (whole_root-is R).0))

    go : Dec (rest ≤ q) → (r : ℕ) × Near A r
    go (yes h) = let m = stays R q rest parts (omega arith) h in (q, (m.0, m.1, digits))
    go (no g) =
        let h : q < rest = lt_of_not-le g in
        let m = moves R q rest parts few h in
        (q + 1, (m.0, m.1, no_carry A q rest parts h digits hi))

-- ---- the number that the root is taken of
radicand_is : (m : ℕ) (e : ℤ) (w : ℕ) → HasValue (fin false m e) false w (2 ^ 1126) → radicand binary64 m e ≡ w * 2 ^ 1022
radicand_is m e w v = whole_part_lem (2 ^ 1126) (2 ^ 1022) (2 ^ 2148) (pow-add 2 1126 1022) m (up e) (down e) w (down_pos e) v.1

doubled : (a e : ℕ) → 2 ^ 52 ≤ a → a < 2 ^ 53 → (2 ^ 52 ≤ a * 2 ^ (e % 2)) × (a * 2 ^ (e % 2) + 1 < 2 ^ 54)
doubled a e lo hi = go (e % 2) (parity e)
  where
    parity : (e : ℕ) → e % 2 ≤ 1
    parity e = omega arith

    go : (b : ℕ) → b ≤ 1 → (2 ^ 52 ≤ a * 2 ^ b) × (a * 2 ^ b + 1 < 2 ^ 54)
    go zero h = (omega arith, omega arith)
    go (suc zero) h = (omega arith, omega arith)
    go (suc (suc b)) h = absurd (beyond b h)
      where
        beyond : (b : ℕ) → suc (suc b) ≤ 1 → ⊥
        beyond b h = omega arith

scale_of : (b : ℕ) → 0 < b → b < 9218868437227405312 → (a : ℕ) × (e : ℕ) × Scale b a e
scale_of b p h = elim (eq-zero-or-pos (b / 4503599627370496)) [
  | inl z ↦ (_, _, scale_low b p z)
  | inr g ↦ (_, _, scale_high b h (λ z. lt_irrefl 0 (subst (λ (x : ℕ). 0 < x) z g)))
]

by_pattern : (b : ℕ) → 0 < b → b < 9218868437227405312 → (m : ℕ) (e : ℤ) → of_bits binary64 b ≡ fin false m e → IsNearest binary64 (radicand binary64 m e) (root_of binary64 (fin false m e))
by_pattern b p h m e is =
    let s = scale_of b p h in
    let a = s.0 in
    let x = s.1 in
    let d = doubled a x s.2.0 s.2.1 in
    let A = a * 2 ^ (x % 2) in
    let k = 485 + x / 2 in
    let n = near_root A d.0 d.1 in
    let r = n.0 in
    let root_is : root_of binary64 (fin false m e) ≡ units binary64 false r k =
    ap (root_of binary64) (sym is) ∙ the_root b a x A r s.2 d.0 d.1 refl n.1.0 n.1.1 n.1.2 in
    let square-is : radicand binary64 m e ≡ A * 2 ^ 52 * (2 ^ k * 2 ^ k) =
    radicand_is m e (a * 2 ^ x) (subst (λ (v : Float). HasValue v false (a * 2 ^ x) (2 ^ 1126)) is s.2.3) ∙ split a x 1022 52 k (halves x) in
    subst (λ (v : Float). IsNearest binary64 (radicand binary64 m e) v) (sym root_is)
    (subst (λ (j : ℕ). IsNearest binary64 j (units binary64 false r k)) (sym square-is)
    (units_nearest binary64 (A * 2 ^ 52) r k (big A d.0) (leading b a x A r s.2 d.0 d.1 refl n.1.0 n.1.1 n.1.2) n.1.2 n.1.0 n.1.1
    (no_overflow b a x A r s.2 d.0 d.1 refl n.1.0 n.1.1 n.1.2)))
  where
    halves : (e : ℕ) → e + 1022 ≡ e % 2 + 52 + (485 + e / 2 + (485 + e / 2))
    halves e = omega arith

    big : (A : ℕ) → 2 ^ 52 ≤ A → 2 ^ 52 * 2 ^ 52 ≤ A * 2 ^ 52
    big A h = omega arith

above_zero : (m : ℕ) (e : ℤ) → lt (of_bits binary64 0) (fin false (suc m) e) ≡ true
unfolding lt of_bits
above_zero m e =
    is_true _ (lt→ltb (0 * 1 * down e) (suc m * up e * 1) (subst (λ (x : ℕ). x < suc m * up e * 1) (sym (zero-mul (down e))) (mul-pos (mul-pos (zero-lt-suc m) (up_pos e)) (zero-lt-suc 0))))

-- The answer for a finite float above zero is nearest to its root. With `nearest_unique` no other float is.
pub root_is_nearest : (m : ℕ) (e : ℤ) → T (fits binary64 (fin false (suc m) e)) → IsNearest binary64 (radicand binary64 (suc m) e) (root_of binary64 (fin false (suc m) e))
root_is_nearest m e h =
    let x = fin false (suc m) e in
    by_pattern (to_bits binary64 x) (above_bits x (is_true (fits binary64 x) h) (above_zero m e)) (finite_bits (suc m) e h) (suc m) e (of_bits-to_bits binary64 x h)

-- ---- the format holds every answer
nearest_fits : (f : Format) (n : ℕ) (v : Float) → IsNearest f n v → T (fits f v)
nearest_fits f n nan h = absurd h
nearest_fits f n (inf s) h = absurd h
nearest_fits f n (fin true m e) h = absurd h
nearest_fits f n (fin false m e) h = h.0

pub root_of-fits : (x : Float) → T (fits binary64 x) → T (fits binary64 (root_of binary64 x))
root_of-fits nan h = unfold root_of fits in tt
root_of-fits (inf true) h = unfold root_of fits in tt
root_of-fits (inf false) h = unfold root_of fits in tt
root_of-fits (fin true zero e) h = unfold root_of in h
root_of-fits (fin true (suc m) e) h = unfold root_of fits in tt
root_of-fits (fin false zero e) h = subst (λ (v : Float). T (fits binary64 v)) (zero_root (fin false zero e) (is_true (fits binary64 (fin false zero e)) h) (is_true (eq (fin false zero e) (of_bits binary64 0)) (level_zero false e))) h
root_of-fits (fin false (suc m) e) h = nearest_fits binary64 (radicand binary64 (suc m) e) (root_of binary64 (fin false (suc m) e)) (root_is_nearest m e h)
