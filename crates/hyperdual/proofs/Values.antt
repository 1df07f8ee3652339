-- The examples of explicit.rs, by computing the definitions.
use mathlib.Core.Path.{◌≡◌, refl}
use lib.IntN.{pos}
use lib.Ieee.{binary64, of_bits, of_int, add, sub, mul, div}
use Rattle.real.specs.Operations.{one}
use Rattle.real.specs.Root.{root_of}
use Rattle.derivatives.specs.Series.{from_int, sqrt_series}
use Rattle.derivatives.specs.Apply.{sqrt_of}
use Rattle.hyperdual.specs.declared.HyperDual.{HyperDual}
use Rattle.hyperdual.specs.Rules.{hyper_dual, hyper_dual_derivative1, hyper_dual_derivative2, hyper_dual_from_re, hyper_dual_chain, hyper_dual_mul, hyper_dual_div, hyper_dual_add, hyper_dual_algebra}

-- the root of the sum of two squares
abbrev hypotenuse : HyperDual → HyperDual → HyperDual
hypotenuse x y = sqrt_of hyper_dual_algebra (hyper_dual_add (hyper_dual_mul x x) (hyper_dual_mul y y))

abbrev x : HyperDual
x = hyper_dual_derivative1 (hyper_dual_from_re (from_int (pos 4)))

-- second_partial_derivative: that of x = 4 and y = 3 is 5, its derivatives 0.8 and 0.6 (rounded up), the mixed one -0.096
second_partial_derivative :
    hypotenuse x (hyper_dual_derivative2 (hyper_dual_from_re (from_int (pos 3))))
    ≡ hyper_dual (from_int (pos 5)) (of_bits binary64 0x3fe9_9999_9999_999a) (of_bits binary64 0x3fe3_3333_3333_3334) (of_bits binary64 0xbfb8_9374_bc6a_7efa)
unfolding hyper_dual_chain hyper_dual_mul hyper_dual_add sqrt_series root_of add sub mul div of_bits of_int
second_partial_derivative = refl

-- partial_hessian: y = 5 by that of x = 4 and 3 is 1, its derivatives -0.16 and 0.2, the mixed one -0.032, each rounded away from zero
partial_hessian :
    hyper_dual_div (hyper_dual_derivative2 (hyper_dual_from_re (from_int (pos 5)))) (hypotenuse x (hyper_dual_from_re (from_int (pos 3))))
    ≡ hyper_dual one (of_bits binary64 0xbfc4_7ae1_47ae_147c) (of_bits binary64 0x3fc9_9999_9999_999b) (of_bits binary64 0xbfa0_624d_d2f1_a9fd)
unfolding hyper_dual_chain hyper_dual_mul hyper_dual_div hyper_dual_add sqrt_series root_of add sub mul div of_bits of_int
partial_hessian = refl
