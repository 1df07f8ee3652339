-- What a record does for a request, decided from the real part and the request alone: the thresholds, exponents and refusals of every function. Definitions only.
use Rattle.std.specs.Prelude.{Bool, false, cond, eqb, Float, ℤ, pos, negsuc}
use Rattle.std.specs.Float.Ieee.{lt, eq}
use Rattle.std.specs.Int.Signed.{lt_z}
use Rattle.refusals.specs.Largest as largest
use Rattle.refusals.specs.declared.Refusal.TheVariants.{ExponentTooLarge}
use Rattle.real.specs.Operations.{◌⊖◌, zero, one, epsilon}
use Rattle.real.specs.Sign.{abs_of}
use Rattle.derivatives.specs.declared.Function.{Function}
use Rattle.derivatives.specs.declared.Function.TheVariants.{Recip, Powi, Powf, Sqrt, Cbrt, Exp, Exp2, ExpM1, Ln, Log, Log2, Log10, Ln1p, Sin, Cos, Tan, Asin, Acos, Atan, Sinh, Cosh, Tanh, Asinh, Acosh, Atanh, SphJ0, SphJ1, SphJ2, SphJ1Series}
use Rattle.derivatives.specs.declared.Plan.{Plan}
use Rattle.derivatives.specs.declared.Plan.TheVariants.{Refused, One, Same, Square, Chain, Quotient, SmallJ0, SmallJ1, SmallJ2, BesselJ0, BesselJ1, BesselJ2, CubicJ1}
use Rattle.derivatives.specs.Series.{recip_series, powi_series, powf_series, sqrt_series, cbrt_series, exp_series, exp2_series, exp_m1_series, ln_series, log_series, log2_series, log10_series, ln1p_series, sin_series, cos_series, asin_series, acos_series, atan_series, sinh_series, cosh_series, asinh_series, acosh_series, atanh_series}

-- a = b
abbrev pub eq_z : ℤ → ℤ → Bool
eq_z (pos a) (pos b) = eqb a b
eq_z (pos a) (negsuc b) = false
eq_z (negsuc a) (pos b) = false
eq_z (negsuc a) (negsuc b) = eqb a b

-- an exponent below -1024 or above 1024 is refused 5 (the port's own); 0 gives one, 1 the input, 2 the square
abbrev pub plan_powi : Float → ℤ → Float → Plan
plan_powi re exp pow3 =
    cond (lt_z exp largest.least_exponent) (Refused ExponentTooLarge)
    (cond (lt_z largest.exponent exp) (Refused ExponentTooLarge)
    (cond (eq_z exp (pos 0)) One
    (cond (eq_z exp (pos 1)) Same
    (cond (eq_z exp (pos 2)) Square
    (Chain (powi_series re exp pow3))))))

-- n zero, one, or nearer to 2 than 2 ^ -52
abbrev pub plan_powf : Float → Float → Float → Plan
plan_powf re n pow3 =
    cond (eq n zero) One
    (cond (eq n one) Same
    (cond (lt (abs_of (n ⊖ one ⊖ one)) epsilon) Square
    (Chain (powf_series re n pow3))))

-- |re| < 2 ^ -52
abbrev pub is_small : Float → Bool
is_small re = lt (abs_of re) epsilon

-- the plan where re is small, else the other
abbrev pub small : Float → Plan → Plan → Plan
small re plan other = cond (is_small re) plan other

-- the plan of each request
abbrev pub plan_of : Float → Function → Plan
plan_of re Recip = Chain (recip_series re)
plan_of re (Powi exp pow3) = plan_powi re exp pow3
plan_of re (Powf n pow3) = plan_powf re n pow3
plan_of re Sqrt = Chain (sqrt_series re)
plan_of re (Cbrt cbrt) = Chain (cbrt_series re cbrt)
plan_of re (Exp exp) = Chain (exp_series exp)
plan_of re (Exp2 exp2) = Chain (exp2_series exp2)
plan_of re (ExpM1 exp-m1 exp) = Chain (exp_m1_series exp-m1 exp)
plan_of re (Ln ln) = Chain (ln_series re ln)
plan_of re (Log log ln-base) = Chain (log_series re log ln-base)
plan_of re (Log2 log2) = Chain (log2_series re log2)
plan_of re (Log10 log10) = Chain (log10_series re log10)
plan_of re (Ln1p ln-1p) = Chain (ln1p_series re ln-1p)
plan_of re (Sin s c) = Chain (sin_series s c)
plan_of re (Cos s c) = Chain (cos_series s c)
plan_of re (Tan s c) = Quotient (sin_series s c) (cos_series s c)
plan_of re (Asin asin) = Chain (asin_series re asin)
plan_of re (Acos acos) = Chain (acos_series re acos)
plan_of re (Atan atan) = Chain (atan_series re atan)
plan_of re (Sinh s c) = Chain (sinh_series s c)
plan_of re (Cosh s c) = Chain (cosh_series s c)
plan_of re (Tanh s c) = Quotient (sinh_series s c) (cosh_series s c)
plan_of re (Asinh asinh) = Chain (asinh_series re asinh)
plan_of re (Acosh acosh) = Chain (acosh_series re acosh)
plan_of re (Atanh atanh) = Chain (atanh_series re atanh)
plan_of re (SphJ0 s c) = small re SmallJ0 (BesselJ0 (sin_series s c))
plan_of re (SphJ1 s c) = small re SmallJ1 (BesselJ1 (sin_series s c) (cos_series s c))
plan_of re (SphJ2 s c) = small re SmallJ2 (BesselJ2 (sin_series s c) (cos_series s c))
plan_of re (SphJ1Series s c) = CubicJ1 s c
