-- A map that keeps the operations of a record keeps every elementary function. At the map to the real part: real parts, and whether a request is
-- refused, come from real parts alone. Once for the five record types. Assumes nothing.
use Prim.Native.Nat.{ℕ}
use mathlib.Core.Path.{◌≡◌, refl, ap, sym, ◌∙◌}
use mathlib.Core.Bool.{cond}
use lib.Dec.{eqb}
use lib.Ieee.{Float, lt, eq}
use Rattle.real.specs.Operations.{zero}
use Rattle.real.specs.Sign.{sign_of}
use Rattle.algebra.specs.Algebra.{Algebra, Keeps, zero_of, one_of}
use Rattle.refusals.specs.Number as refusal
use Rattle.algebra.specs.Outcome.{value, refused, map_outcome}
use Rattle.algebra.proofs.RealParts.{cond_map}
use Rattle.derivatives.specs.declared.Function.{Function}
use Rattle.derivatives.specs.declared.Plan.{Plan}
use Rattle.derivatives.specs.declared.Plan.TheVariants.{Refused, One, Same, Square, Chain, Quotient, SmallJ0, SmallJ1, SmallJ2, BesselJ0, BesselJ1, BesselJ2, CubicJ1}
use Rattle.derivatives.specs.Series.{sin_series, cos_series}
use Rattle.derivatives.specs.Plan.{is_small, plan_of}
use Rattle.derivatives.specs.Apply.{chain_by, cubic_j1, bessel_j1, sph_j1_series_of, run_plan, apply_of, recip_of, sqrt_of, exp_of, ln_of, sin_of, cos_of, atan2_of, mul_add_of, powd_of, abs_sub_of, signum_of}

module _ {R S : Type 0} {A : Algebra R} {B : Algebra S} {h : R → S} (k : Keeps A B h) where
  pub sph_j1_series_keeps : (x : R) (s c : Float) → h (sph_j1_series_of A x s c) ≡ sph_j1_series_of B (h x) s c
  sph_j1_series_keeps x s c =
      rw (cond_map h (is_small (A.re x)) (cubic_j1 A x) (bessel_j1 A x (chain_by A x (sin_series s c)) (chain_by A x (cos_series s c))), k.re x)
      (simp (k.sub, k.div_float, k.mul, k.div, k.chain))

  pub plan_keeps : (nderiv : ℕ) (x : R) (p : Plan) → map_outcome h (run_plan A nderiv x p) ≡ run_plan B nderiv (h x) p
  plan_keeps nderiv x (Refused n) = refl
  plan_keeps nderiv x One = simp k.from_re
  plan_keeps nderiv x Same = refl
  plan_keeps nderiv x Square = simp k.mul
  plan_keeps nderiv x (Chain s) = simp k.chain
  plan_keeps nderiv x (Quotient s t) = simp (k.div, k.chain)
  plan_keeps nderiv x SmallJ0 = simp (k.sub, k.from_re, k.div_float, k.mul)
  plan_keeps nderiv x SmallJ1 = simp k.div_float
  plan_keeps nderiv x SmallJ2 = simp (k.div_float, k.mul)
  plan_keeps nderiv x (BesselJ0 s) = simp (k.div, k.chain)
  plan_keeps nderiv x (BesselJ1 s t) = simp (k.div, k.sub, k.mul, k.chain)
  plan_keeps nderiv x (BesselJ2 s t) = simp (k.div, k.sub, k.mul_float, k.mul, k.chain)
  plan_keeps nderiv x (CubicJ1 s c) = rw (cond_map (map_outcome h) (eqb nderiv 3) (value (sph_j1_series_of A x s c)) (refused refusal.wrong_length), sph_j1_series_keeps x s c)

  pub apply_keeps : (nderiv : ℕ) (x : R) (f : Function) → map_outcome h (apply_of A nderiv x f) ≡ apply_of B nderiv (h x) f
  apply_keeps nderiv x f = rw (k.re x) (plan_keeps nderiv x (plan_of (B.re (h x)) f))

  -- records that the map cannot tell apart: the same number, and answers that it cannot tell apart
  pub apply_never_steers : (nderiv : ℕ) (x x' : R) (f : Function) → h x ≡ h x' → map_outcome h (apply_of A nderiv x f) ≡ map_outcome h (apply_of A nderiv x' f)
  apply_never_steers nderiv x x' f e = apply_keeps nderiv x f ∙ ap (λ (y : S). apply_of B nderiv y f) e ∙ sym (apply_keeps nderiv x' f)

  pub recip_keeps : (x : R) → h (recip_of A x) ≡ recip_of B (h x)
  recip_keeps x = simp (k.chain, k.re)

  pub sqrt_keeps : (x : R) → h (sqrt_of A x) ≡ sqrt_of B (h x)
  sqrt_keeps x = simp (k.chain, k.re)

  pub exp_keeps : (x : R) (exp : Float) → h (exp_of A x exp) ≡ exp_of B (h x) exp
  exp_keeps x exp = simp k.chain

  pub ln_keeps : (x : R) (ln : Float) → h (ln_of A x ln) ≡ ln_of B (h x) ln
  ln_keeps x ln = simp (k.chain, k.re)

  pub sin_keeps : (x : R) (s c : Float) → h (sin_of A x s c) ≡ sin_of B (h x) s c
  sin_keeps x s c = simp k.chain

  pub cos_keeps : (x : R) (s c : Float) → h (cos_of A x s c) ≡ cos_of B (h x) s c
  cos_keeps x s c = simp k.chain

  pub atan2_keeps : (x y : R) (atan quadrant : Float) → h (atan2_of A x y atan quadrant) ≡ atan2_of B (h x) (h y) atan quadrant
  atan2_keeps x y atan quadrant = simp (k.with_re, k.chain, k.re, k.div)

  pub mul_add_keeps : (x a b : R) → h (mul_add_of A x a b) ≡ mul_add_of B (h x) (h a) (h b)
  mul_add_keeps x a b = simp (k.add, k.mul)

  pub powd_keeps : (x n : R) (ln exp : Float) → h (powd_of A x n ln exp) ≡ powd_of B (h x) (h n) ln exp
  powd_keeps x n ln exp = simp (k.chain, k.re, k.mul)

  pub abs_sub_keeps : (x y : R) → h (abs_sub_of A x y) ≡ abs_sub_of B (h x) (h y)
  abs_sub_keeps x y = rw (cond_map h (lt (A.re y) (A.re x)) (A.sub x y) (zero_of A), k.re x, k.re y, k.sub x y, k.from_re zero)

  pub signum_keeps : (x : R) → h (signum_of A x) ≡ signum_of B (h x)
  signum_keeps x = rw (cond_map h (sign_of (A.re x)) (cond (eq (A.re x) zero) (zero_of A) (A.neg (one_of A))) (one_of A), cond_map h (eq (A.re x) zero) (zero_of A) (A.neg (one_of A)), k.re x, k.neg (one_of A)) (simp k.from_re)
