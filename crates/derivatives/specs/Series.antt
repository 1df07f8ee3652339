-- The value f0 and the first three derivatives f1, f2, f3 of each elementary function at a real part, operation for operation as impl_derivatives.rs has them, in its order.
-- What f64 itself computes there (a sine, a logarithm, ..) is a parameter of its name. Definitions only.
use Rattle.std.specs.Prelude.{Float, ℤ, pos, ◌*ℤ◌, ◌-ℤ◌}
use Rattle.std.specs.Float.{binary64}
use Rattle.std.specs.Float.Ieee.{neg, of_int}
use Rattle.real.specs.Operations.{◌⊕◌, ◌⊖◌, ◌⊗◌, ◌⊘◌, one, two, three, six, half, third, ln2, ln10}
use Rattle.real.specs.Root.{sqrt_of}
use Rattle.derivatives.specs.declared.Series.{Series}

-- recip: each derivative is the negated one before times 1 / re, then times 2 and 3
unfoldable pub recip_series : Float → Series
recip_series re =
    let rec = one ⊘ re in
    let f0 = rec in
    let f1 = neg f0 ⊗ rec in
    let f2 = neg f1 ⊗ rec ⊗ two in
    let f3 = neg f2 ⊗ rec ⊗ three in
    record { f0 = f0; f1 = f1; f2 = f2; f3 = f3 }

-- the float of a whole number
abbrev pub from_int : ℤ → Float
from_int = of_int binary64

-- powi: pow3 is re ^ (exp - 3); each derivative has a factor re less, and exp, exp (exp - 1), exp (exp - 1) (exp - 2) as whole numbers
unfoldable pub powi_series : Float → ℤ → Float → Series
powi_series re exp pow3 =
    let f0 = pow3 ⊗ re ⊗ re ⊗ re in
    let f1 = pow3 ⊗ re ⊗ re ⊗ from_int exp in
    let f2 = pow3 ⊗ re ⊗ from_int (exp *ℤ (exp -ℤ pos 1)) in
    let f3 = pow3 ⊗ from_int (exp *ℤ (exp -ℤ pos 1) *ℤ (exp -ℤ pos 2)) in
    record { f0 = f0; f1 = f1; f2 = f2; f3 = f3 }

-- powf: pow3 is re ^ n3, where n3 = ((n - 1) - 1) - 1; each derivative has a factor re less, and n, n n1, n n1 n2 as floats
unfoldable pub powf_series : Float → Float → Float → Series
powf_series re n pow3 =
    let n1 = n ⊖ one in
    let n2 = n1 ⊖ one in
    let f0 = pow3 ⊗ re ⊗ re ⊗ re in
    let f1 = pow3 ⊗ re ⊗ re ⊗ n in
    let f2 = pow3 ⊗ re ⊗ n ⊗ n1 in
    let f3 = pow3 ⊗ n ⊗ n1 ⊗ n2 in
    record { f0 = f0; f1 = f1; f2 = f2; f3 = f3 }

-- sqrt: each derivative is the one before times 1 / re and 1/2, -1/2, -3/2 in turn
unfoldable pub sqrt_series : Float → Series
sqrt_series re =
    let rec = one ⊘ re in
    let f0 = sqrt_of re in
    let f1 = f0 ⊗ rec ⊗ half in
    let f2 = neg f1 ⊗ rec ⊗ half in
    let f3 = f2 ⊗ rec ⊗ (neg one ⊖ half) in
    record { f0 = f0; f1 = f1; f2 = f2; f3 = f3 }

-- cbrt: each derivative is the one before times 1 / re and 1/3, 1/3 - 1, 1/3 - 2 in turn
unfoldable pub cbrt_series : Float → Float → Series
cbrt_series re cbrt =
    let rec = one ⊘ re in
    let f0 = cbrt in
    let f1 = f0 ⊗ rec ⊗ third in
    let f2 = f1 ⊗ rec ⊗ (third ⊖ one) in
    let f3 = f2 ⊗ rec ⊗ (third ⊖ one ⊖ one) in
    record { f0 = f0; f1 = f1; f2 = f2; f3 = f3 }

-- exp: each derivative is the value
unfoldable pub exp_series : Float → Series
exp_series exp = record { f0 = exp; f1 = exp; f2 = exp; f3 = exp }

-- exp2: each derivative is the one before times ln 2
unfoldable pub exp2_series : Float → Series
exp2_series exp2 =
    let f0 = exp2 in
    let f1 = f0 ⊗ ln2 in
    let f2 = f1 ⊗ ln2 in
    let f3 = f2 ⊗ ln2 in
    record { f0 = f0; f1 = f1; f2 = f2; f3 = f3 }

-- exp_m1: each derivative is exp
unfoldable pub exp_m1_series : Float → Float → Series
exp_m1_series exp-m1 exp = record { f0 = exp-m1; f1 = exp; f2 = exp; f3 = exp }

-- the five logarithms, from the reciprocal, the value and the first derivative: f2 = -f1 rec, f3 = -2 f2 rec
abbrev pub logarithm_series : Float → Float → Float → Series
logarithm_series rec f0 f1 =
    let f2 = neg f1 ⊗ rec in
    let f3 = neg f2 ⊗ rec ⊗ two in
    record { f0 = f0; f1 = f1; f2 = f2; f3 = f3 }

-- ln: f1 = 1 / re
unfoldable pub ln_series : Float → Float → Series
ln_series re ln = let rec = one ⊘ re in logarithm_series rec ln rec

-- log: f1 = 1 / re / ln-base
unfoldable pub log_series : Float → Float → Float → Series
log_series re log ln-base = let rec = one ⊘ re in logarithm_series rec log (rec ⊘ ln-base)

-- log2: f1 = 1 / re / ln 2
unfoldable pub log2_series : Float → Float → Series
log2_series re log2 = let rec = one ⊘ re in logarithm_series rec log2 (rec ⊘ ln2)

-- log10: f1 = 1 / re / ln 10
unfoldable pub log10_series : Float → Float → Series
log10_series re log10 = let rec = one ⊘ re in logarithm_series rec log10 (rec ⊘ ln10)

-- ln_1p: f1 = 1 / (re + 1)
unfoldable pub ln1p_series : Float → Float → Series
ln1p_series re ln-1p = let rec = one ⊘ (re ⊕ one) in logarithm_series rec ln-1p rec

-- sin: the derivatives are cos, -sin, -cos
unfoldable pub sin_series : Float → Float → Series
sin_series s c = record { f0 = s; f1 = c; f2 = neg s; f3 = neg c }

-- cos: the derivatives are -sin, -cos, sin
unfoldable pub cos_series : Float → Float → Series
cos_series s c = record { f0 = c; f1 = neg s; f2 = neg c; f3 = s }

-- asin: with rec = 1 / (1 - re²), f1 = √rec, f2 = re f1 rec, f3 = (2 re² + 1) f1 rec²
unfoldable pub asin_series : Float → Float → Series
asin_series re asin =
    let rec = one ⊘ (one ⊖ re ⊗ re) in
    let f0 = asin in
    let f1 = sqrt_of rec in
    let f2 = re ⊗ f1 ⊗ rec in
    let f3 = (re ⊗ re ⊗ (one ⊕ one) ⊕ one) ⊗ f1 ⊗ rec ⊗ rec in
    record { f0 = f0; f1 = f1; f2 = f2; f3 = f3 }

-- acos: as asin from f1 = -√rec on
unfoldable pub acos_series : Float → Float → Series
acos_series re acos =
    let rec = one ⊘ (one ⊖ re ⊗ re) in
    let f0 = acos in
    let f1 = neg (sqrt_of rec) in
    let f2 = re ⊗ f1 ⊗ rec in
    let f3 = (re ⊗ re ⊗ (one ⊕ one) ⊕ one) ⊗ f1 ⊗ rec ⊗ rec in
    record { f0 = f0; f1 = f1; f2 = f2; f3 = f3 }

-- atan: with rec = 1 / (1 + re²), f1 = rec, f2 = -2 re f1 rec, f3 = (6 re² - 2) f1 rec²
unfoldable pub atan_series : Float → Float → Series
atan_series re atan =
    let rec = one ⊘ (one ⊕ re ⊗ re) in
    let f0 = atan in
    let f1 = rec in
    let two = one ⊕ one in
    let f2 = neg re ⊗ f1 ⊗ rec ⊗ two in
    let f3 = (re ⊗ re ⊗ six ⊖ two) ⊗ f1 ⊗ rec ⊗ rec in
    record { f0 = f0; f1 = f1; f2 = f2; f3 = f3 }

-- sinh: the derivatives are cosh, sinh, cosh
unfoldable pub sinh_series : Float → Float → Series
sinh_series s c = record { f0 = s; f1 = c; f2 = s; f3 = c }

-- cosh: the derivatives are sinh, cosh, sinh
unfoldable pub cosh_series : Float → Float → Series
cosh_series s c = record { f0 = c; f1 = s; f2 = c; f3 = s }

-- asinh: with rec = 1 / (1 + re²), f1 = √rec, f2 = -re f1 rec, f3 = (2 re² - 1) f1 rec²
unfoldable pub asinh_series : Float → Float → Series
asinh_series re asinh =
    let rec = one ⊘ (one ⊕ re ⊗ re) in
    let f0 = asinh in
    let f1 = sqrt_of rec in
    let f2 = neg re ⊗ f1 ⊗ rec in
    let f3 = (re ⊗ re ⊗ (one ⊕ one) ⊖ one) ⊗ f1 ⊗ rec ⊗ rec in
    record { f0 = f0; f1 = f1; f2 = f2; f3 = f3 }

-- acosh: with rec = 1 / (re² - 1), f1 = √rec, f2 = -re f1 rec, f3 = (2 re² + 1) f1 rec²
unfoldable pub acosh_series : Float → Float → Series
acosh_series re acosh =
    let rec = one ⊘ (re ⊗ re ⊖ one) in
    let f0 = acosh in
    let f1 = sqrt_of rec in
    let f2 = neg re ⊗ f1 ⊗ rec in
    let f3 = (re ⊗ re ⊗ (one ⊕ one) ⊕ one) ⊗ f1 ⊗ rec ⊗ rec in
    record { f0 = f0; f1 = f1; f2 = f2; f3 = f3 }

-- atanh: with rec = 1 / (1 - re²), f1 = rec, f2 = 2 re f1 rec, f3 = (6 re² + 2) f1 rec²
unfoldable pub atanh_series : Float → Float → Series
atanh_series re atanh =
    let rec = one ⊘ (one ⊖ re ⊗ re) in
    let f0 = atanh in
    let f1 = rec in
    let two = one ⊕ one in
    let f2 = re ⊗ f1 ⊗ rec ⊗ two in
    let f3 = (re ⊗ re ⊗ six ⊕ two) ⊗ f1 ⊗ rec ⊗ rec in
    record { f0 = f0; f1 = f1; f2 = f2; f3 = f3 }
