-- The example of explicit.rs, and a quotient, by computing the definitions.
use mathlib.Core.Path.{◌≡◌, refl}
use lib.IntN.{pos, negsuc}
use lib.Ieee.{Float, of_bits, of_int, neg, add, mul, div}
use Rattle.real.specs.Operations.{◌⊘◌, zero, one}
use Rattle.algebra.specs.Algebra.{one_of}
use Rattle.algebra.specs.Outcome.{value}
use Rattle.derivatives.specs.declared.Function.TheVariants.{Powi}
use Rattle.derivatives.specs.Series.{from_int, recip_series, powi_series}
use Rattle.derivatives.specs.Apply.{apply_of}
use Rattle.hyperhyperdual.specs.declared.HyperHyperDual.{HyperHyperDual}
use Rattle.hyperhyperdual.specs.Rules.{hyper_hyper_dual, hyper_hyper_dual_derivative1, hyper_hyper_dual_derivative2, hyper_hyper_dual_derivative3, hyper_hyper_dual_from_re, hyper_hyper_dual_chain, hyper_hyper_dual_mul, hyper_hyper_dual_div, hyper_hyper_dual_add, hyper_hyper_dual_algebra}

abbrev x : HyperHyperDual
x = hyper_hyper_dual_derivative1 (hyper_hyper_dual_from_re (from_int (pos 1)))

abbrev y : HyperHyperDual
y = hyper_hyper_dual_derivative2 (hyper_hyper_dual_from_re (from_int (pos 2)))

abbrev z : HyperHyperDual
z = hyper_hyper_dual_derivative3 (hyper_hyper_dual_from_re (from_int (pos 3)))

-- third_partial_derivative: (x * x + y * y + z * z) powi 3 with 1 supplied, at x = 1, y = 2, z = 3
third_partial_derivative :
    apply_of hyper_hyper_dual_algebra 3 (hyper_hyper_dual_add (hyper_hyper_dual_add (hyper_hyper_dual_mul x x) (hyper_hyper_dual_mul y y)) (hyper_hyper_dual_mul z z)) (Powi (pos 3) one)
    ≡ value (hyper_hyper_dual (from_int (pos 2744)) (from_int (pos 1176)) (from_int (pos 2352)) (from_int (pos 3528)) (from_int (pos 672)) (from_int (pos 1008)) (from_int (pos 2016)) (from_int (pos 288)))
unfolding hyper_hyper_dual_chain hyper_hyper_dual_mul hyper_hyper_dual_add powi_series add mul of_bits of_int
third_partial_derivative = refl

abbrev quarter : Float
quarter = one ⊘ from_int (pos 4)

-- 1 / t at t = 2: 1/2, its first derivative -1/4, the second 1/4, the third -3/8
reciprocal :
    hyper_hyper_dual_div (one_of hyper_hyper_dual_algebra) (hyper_hyper_dual (from_int (pos 2)) one one one zero zero zero zero)
    ≡ hyper_hyper_dual (one ⊘ from_int (pos 2)) (neg quarter) (neg quarter) (neg quarter) quarter quarter quarter (from_int (negsuc 2) ⊘ from_int (pos 8))
unfolding hyper_hyper_dual_chain hyper_hyper_dual_mul hyper_hyper_dual_div recip_series neg add mul div of_bits of_int
reciprocal = refl
