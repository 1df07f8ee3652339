-- The plan of a request, from what the request is, and its cases by the tests: cited by `choose` and the functions that it calls. Assumes nothing.
use mathlib.Core.Path.{◌≡◌}
use mir.Syntax.{w32}
use mir.Val.{to_z, of_z}
use lib.Ieee.{Float}
use lib.IntN.{ℤ}
use Rattle.derivatives.specs.declared.Series.{Series}
use Rattle.derivatives.specs.declared.Function.{Function}
use Rattle.derivatives.specs.declared.Function.TheVariants.{Powi, SphJ0, SphJ1, SphJ2}
use Rattle.derivatives.specs.declared.Plan.{Plan}
use Rattle.derivatives.specs.declared.Plan.TheVariants.{SmallJ0, SmallJ1, SmallJ2, BesselJ0, BesselJ1, BesselJ2}
use Rattle.derivatives.specs.Series.{sin_series, cos_series}
use Rattle.derivatives.specs.Plan.{plan_powi, small, plan_of}

module _ (re : Float) (f : Function) (p : Plan) where
  -- the plan of what f is
  pub planned : (g : Function) → f ≡ g → p ≡ plan_of re g → p ≡ plan_of re f
  planned g told e = rw told e

  -- the exponent as the machine holds it is the exponent
  pub planned_powi : (exp : ℤ) (pow3 : Float) → f ≡ Powi exp pow3 → p ≡ plan_powi re (to_z w32 (of_z w32 exp)) pow3 → to_z w32 (of_z w32 exp) ≡ exp → p ≡ plan_of re f
  planned_powi exp pow3 told e back = rw told (rw back at e)

  -- the spherical Bessel functions: small or not, from the sine u and the cosine v
  pub planned_j0 : (s c : Float) (u : Series) → f ≡ SphJ0 s c → u ≡ sin_series s c → p ≡ small re SmallJ0 (BesselJ0 u) → p ≡ plan_of re f
  planned_j0 s c u told e h = rw (told, ← e) h

  pub planned_j1 : (s c : Float) (u v : Series) → f ≡ SphJ1 s c → u ≡ sin_series s c → v ≡ cos_series s c → p ≡ small re SmallJ1 (BesselJ1 u v) → p ≡ plan_of re f
  planned_j1 s c u v told e g h = rw (told, ← e, ← g) h

  pub planned_j2 : (s c : Float) (u v : Series) → f ≡ SphJ2 s c → u ≡ sin_series s c → v ≡ cos_series s c → p ≡ small re SmallJ2 (BesselJ2 u v) → p ≡ plan_of re f
  planned_j2 s c u v told e g h = rw (told, ← e, ← g) h
