-- What a record makes of a plan, over any record by its `Algebra`: written once for the five record types. Definitions only.
use Rattle.std.specs.Prelude.{ℕ, cond, eqb, Float}
use Rattle.std.specs.Float.Ieee.{lt, eq}
use Rattle.refusals.specs.Number as refusal
use Rattle.refusals.specs.Refused.{number}
use Rattle.real.specs.Operations.{zero, three, six, fifteen, thirty}
use Rattle.real.specs.Sign.{sign_of}
use Rattle.algebra.specs.Algebra.{Algebra, zero_of, one_of}
use Rattle.algebra.specs.Outcome.{Outcome, value, refused}
use Rattle.derivatives.specs.declared.Series.{Series}
use Rattle.derivatives.specs.declared.Function.{Function}
use Rattle.derivatives.specs.declared.Plan.{Plan}
use Rattle.derivatives.specs.declared.Plan.TheVariants.{Refused, One, Same, Square, Chain, Quotient, SmallJ0, SmallJ1, SmallJ2, BesselJ0, BesselJ1, BesselJ2, CubicJ1}
use Rattle.derivatives.specs.Series.{recip_series, sqrt_series, exp_series, ln_series, sin_series, cos_series, atan_series}
use Rattle.derivatives.specs.Plan.{is_small, plan_of}

module _ {R : Type 0} (A : Algebra R) where
  -- the chain rule with the derivatives of s
  abbrev pub chain_by : R → Series → R
  chain_by x s = A.chain x s.f0 s.f1 s.f2 s.f3

  -- sph_j0 for small x: 1 - x * x / 6
  abbrev pub small_j0 : R → R
  small_j0 x = A.sub (one_of A) (A.div_float (A.mul x x) six)

  -- sph_j2 for small x: x * x / 15
  abbrev pub small_j2 : R → R
  small_j2 x = A.div_float (A.mul x x) fifteen

  -- sph_j1 from the sine s and the cosine c of x: (s - x * c) / (x * x)
  abbrev pub bessel_j1 : R → R → R → R
  bessel_j1 x s c = A.div (A.sub s (A.mul x c)) (A.mul x x)

  -- sph_j2 from the sine s and the cosine c of x: ((s - x * c) * 3 - s2 * s) / (s2 * x), where s2 = x * x
  abbrev pub bessel_j2 : R → R → R → R
  bessel_j2 x s c =
      let s2 = A.mul x x in
      A.div (A.sub (A.mul_float (A.sub s (A.mul x c)) three) (A.mul s2 s)) (A.mul s2 x)

  -- the first two terms of the series of sph_j1: x / 3 - x * x * x / 30 (BesselTerms)
  abbrev pub cubic_j1 : R → R
  cubic_j1 x = A.sub (A.div_float x three) (A.div_float (A.mul (A.mul x x) x) thirty)

  -- sph_j1_series: those terms where re is small, else what sph_j1 gives
  abbrev pub sph_j1_series_of : R → Float → Float → R
  sph_j1_series_of x s c = cond (is_small (A.re x)) (cubic_j1 x) (bessel_j1 x (chain_by x (sin_series s c)) (chain_by x (cos_series s c)))

  -- the outcome of a plan, for a record that carries `nderiv` derivatives; sph_j1_series is refused 2 where it carries no third one
  abbrev pub run_plan : ℕ → R → Plan → Outcome R
  run_plan nderiv x (Refused e) = refused (number e)
  run_plan nderiv x One = value (one_of A)
  run_plan nderiv x Same = value x
  run_plan nderiv x Square = value (A.mul x x)
  run_plan nderiv x (Chain s) = value (chain_by x s)
  run_plan nderiv x (Quotient s t) = value (A.div (chain_by x s) (chain_by x t))
  run_plan nderiv x SmallJ0 = value (small_j0 x)
  run_plan nderiv x SmallJ1 = value (A.div_float x three)
  run_plan nderiv x SmallJ2 = value (small_j2 x)
  run_plan nderiv x (BesselJ0 s) = value (A.div (chain_by x s) x)
  run_plan nderiv x (BesselJ1 s t) = value (bessel_j1 x (chain_by x s) (chain_by x t))
  run_plan nderiv x (BesselJ2 s t) = value (bessel_j2 x (chain_by x s) (chain_by x t))
  run_plan nderiv x (CubicJ1 s c) = cond (eqb nderiv 3) (value (sph_j1_series_of x s c)) (refused refusal.wrong_length)

  -- a request's outcome
  abbrev pub apply_of : ℕ → R → Function → Outcome R
  apply_of nderiv x f = run_plan nderiv x (plan_of (A.re x) f)

  abbrev pub recip_of : R → R
  recip_of x = chain_by x (recip_series (A.re x))

  abbrev pub sqrt_of : R → R
  sqrt_of x = chain_by x (sqrt_series (A.re x))

  abbrev pub exp_of : R → Float → R
  exp_of x exp = chain_by x (exp_series exp)

  abbrev pub ln_of : R → Float → R
  ln_of x ln = chain_by x (ln_series (A.re x) ln)

  abbrev pub sin_of : R → Float → Float → R
  sin_of x s c = chain_by x (sin_series s c)

  abbrev pub cos_of : R → Float → Float → R
  cos_of x s c = chain_by x (cos_series s c)

  abbrev pub atan_of : R → Float → R
  atan_of x atan = chain_by x (atan_series (A.re x) atan)

  -- the arctangent of x / y, with the four-quadrant value as its real part
  abbrev pub atan2_of : R → R → Float → Float → R
  atan2_of x y atan quadrant = A.with_re (atan_of (A.div x y) atan) quadrant

  -- x * a + b, two operations
  abbrev pub mul_add_of : R → R → R → R
  mul_add_of x a b = A.add (A.mul x a) b

  -- x ^ n as exp(ln(x) * n), given ln at the real part of x, and exp at that of the product
  abbrev pub powd_of : R → R → Float → Float → R
  powd_of x n ln exp = exp_of (A.mul (ln_of x ln) n) exp

  -- x - y where x is above y, else zero
  abbrev pub abs_sub_of : R → R → R
  abs_sub_of x y = cond (lt (A.re y) (A.re x)) (A.sub x y) (zero_of A)

  -- one where the sign bit of re is clear; else zero where re is zero, else minus one
  abbrev pub signum_of : R → R
  signum_of x = cond (sign_of (A.re x)) (cond (eq (A.re x) zero) (zero_of A) (A.neg (one_of A))) (one_of A)
