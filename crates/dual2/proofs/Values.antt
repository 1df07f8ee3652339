-- The value in the documentation of dual2.rs, by computing the definitions.
use mathlib.Core.Path.{◌≡◌, refl}
use lib.IntN.{pos}
use lib.Ieee.{binary64, of_bits, add, mul}
use Rattle.real.specs.Operations.{zero, two, ten}
use Rattle.algebra.specs.Outcome.{value}
use Rattle.derivatives.specs.declared.Function.TheVariants.{Powi}
use Rattle.derivatives.specs.Apply.{apply_of}
use Rattle.dual2.specs.Rules.{dual2, dual2_from_re, dual2_derivative, dual2_mul, dual2_algebra}

-- 5 with its derivative part set to 1, powi 2, is (25, 10, 2): x², 2x, 2
square : apply_of dual2_algebra 2 (dual2_derivative (dual2_from_re (of_bits binary64 0x4014_0000_0000_0000))) (Powi (pos 2) zero) ≡ value (dual2 (of_bits binary64 0x4039_0000_0000_0000) ten two)
unfolding dual2_mul mul add of_bits
square = refl
