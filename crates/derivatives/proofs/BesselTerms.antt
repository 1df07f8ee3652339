-- The rules of sph_j for small x are the beginnings of DLMF 10.53.1's series, by computing its terms; and that series is the one of the closed form. Assumes nothing.
use Prim.Native.Nat.{ℕ, zero, suc, ◌+◌, ◌*◌, ◌^◌}
use mathlib.Core.Path.{◌≡◌, refl, sym, ap, ◌∙◌}
use mathlib.Core.Bool.{true, false}
use native.Mathlib.Nat.{mul_comm, mul_assoc, mul_left_comm, mul_right_comm, mul-mul-mul_comm, pow-succ'}
use native.Mathlib.Omega.{arith}
use lib.Ieee.{Float, of_bits, of_int}
use Rattle.real.specs.Operations.{three}
use Rattle.algebra.specs.Algebra.{Algebra}
use Rattle.derivatives.specs.declared.Function.TheVariants.{SphJ1, SphJ1Series}
use Rattle.derivatives.specs.Plan.{is_small}
use Rattle.derivatives.specs.Apply.{small_j2, cubic_j1, apply_of}
use Rattle.derivatives.specs.BesselTerms.{factorial, double_factorial, term_of, beginning_of}

-- sph_j0: one less x * x / 6
pub j0_terms : (term_of 0 0 ≡ record { negative = false; power = 0; denominator = 1 }) × (term_of 0 1 ≡ record { negative = true; power = 2; denominator = 6 })
j0_terms = (refl, refl)

-- sph_j1: x / 3, and less ((x * x) * x) / 30
pub j1_terms : (term_of 1 0 ≡ record { negative = false; power = 1; denominator = 3 }) × (term_of 1 1 ≡ record { negative = true; power = 3; denominator = 30 })
j1_terms = (refl, refl)

-- the third derivative at 0 is that of the second term, -3! / 30, which is -1/5
pub j1_third_derivative : factorial 3 * 5 ≡ (term_of 1 1).denominator
j1_third_derivative = refl

-- sph_j2: x * x / 15
pub j2_terms : term_of 2 0 ≡ record { negative = false; power = 2; denominator = 15 }
j2_terms = refl

module _ {R : Type 0} (A : Algebra R) (x : R) where
  -- sph_j1_series is j_1 up to its second term, where the ported rule ends with the first
  pub cubic_begins : cubic_j1 A x ≡ beginning_of A 1 1 x
  unfolding of_bits of_int
  cubic_begins = refl

  pub ported_begins : A.div_float x three ≡ beginning_of A 1 0 x
  unfolding of_bits of_int
  ported_begins = refl

  pub small_j2_begins : small_j2 A x ≡ beginning_of A 2 0 x
  unfolding of_bits of_int
  small_j2_begins = refl

  -- where re is not small, sph_j1_series gives what sph_j1 gives
  pub series_is_sph_j1 : (s c : Float) → is_small (A.re x) ≡ false → apply_of A 3 x (SphJ1Series s c) ≡ apply_of A 3 x (SphJ1 s c)
  series_is_sph_j1 s c none = rw none

-- 2^m m! with one factor of each more
doubled : (m : ℕ) → 2 * suc m * (2 ^ m * factorial m) ≡ 2 ^ suc m * factorial (suc m)
doubled m = mul-mul-mul_comm 2 (suc m) (2 ^ m) (factorial m) ∙ ap (λ (k : ℕ). k * factorial (suc m)) (sym (pow-succ' 2 m))

-- (2m + 1)! = 2^m m! (2m + 1)!!
odd_factorial : (m : ℕ) → factorial (2 * m + 1) ≡ 2 ^ m * factorial m * double_factorial (2 * m + 1)
odd_factorial zero = refl
odd_factorial (suc m) =
    let n = 2 * m + 1 in
    let d = double_factorial n in
    let a = 2 ^ m * factorial m in
    let longer : 2 * suc m + 1 ≡ suc (suc n) = omega arith in
    let even : suc n ≡ 2 * suc m = omega arith in
    ap factorial longer
    ∙ ap (λ (k : ℕ). suc (suc n) * (suc n * k)) (odd_factorial m)
    ∙ ap (λ (k : ℕ). suc (suc n) * (k * (a * d))) even
    ∙ ap (λ (k : ℕ). suc (suc n) * k) (sym (mul_assoc (2 * suc m) a d) ∙ ap (λ (k : ℕ). k * d) (doubled m))
    ∙ mul_left_comm (suc (suc n)) (2 ^ suc m * factorial (suc m)) d
    ∙ ap (λ (k : ℕ). 2 ^ suc m * factorial (suc m) * double_factorial k) (sym longer)

-- Term k of j_0 is that of sin(z) / z, (-1)^k z^(2k) / (2k + 1)!. Term k of j_1 is (-1)^k z^(2k + 1) (2k + 2) / (2k + 3)!, which is that of
-- sin(z) / z^2 - cos(z) / z: (-1)^k z^(2k + 1) (1 / (2k + 2)! - 1 / (2k + 3)!).
pub j0_is_closed : (k : ℕ) → (term_of 0 k).denominator ≡ factorial (2 * k + 1)
j0_is_closed k = ap (λ (i : ℕ). 2 ^ k * factorial k * double_factorial i) (let same : 0 + 2 * k + 1 ≡ 2 * k + 1 = omega arith in same) ∙ sym (odd_factorial k)

pub j1_is_closed : (k : ℕ) → (term_of 1 k).denominator * (2 * k + 2) ≡ factorial (2 * k + 3)
j1_is_closed k =
    let a = 2 ^ k * factorial k in
    let longer : 2 + 2 * k + 1 ≡ 2 * suc k + 1 = omega arith in
    let d = double_factorial (2 * suc k + 1) in
    ap (λ (i : ℕ). a * double_factorial i * (2 * k + 2)) longer
    ∙ mul_right_comm a d (2 * k + 2)
    ∙ ap (λ (i : ℕ). i * d) (mul_comm a (2 * k + 2) ∙ ap (λ (i : ℕ). i * a) (let even : 2 * k + 2 ≡ 2 * suc k = omega arith in even) ∙ doubled k)
    ∙ sym (odd_factorial (suc k))
    ∙ ap factorial (let same : 2 * suc k + 1 ≡ 2 * k + 3 = omega arith in same)
