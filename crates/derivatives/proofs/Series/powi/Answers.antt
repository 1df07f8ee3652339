-- An exponent within 1024 of zero: every product of it fits an i32, and is read back from its bits as it is (Falling).
use Rattle.derivatives.specs.Series.{powi_series}
use Rattle.derivatives.proofs.Falling.{third_fits, exp_back, one_less_back, two_less_back, second_back, third_back}
use Rattle.derivatives.proofs.Series.powi.Goals as goal

-- exp (exp - 1) (exp - 2) fits, once its factors are read back
pub overflow_mul-f3-2 : goal.overflow_mul-f3-2
overflow_mul-f3-2 c =
    let e = c.args.exp in
    let h = c.requires in
    rw (exp_back e h, one_less_back e h, second_back e h, two_less_back e h) (third_fits e h)

-- what is read back of each product is the whole number of the rule
pub returns : goal.returns
unfolding powi_series
returns c =
    let e = c.args.exp in
    let h = c.requires in
    rw (exp_back e h, one_less_back e h, second_back e h, two_less_back e h, third_back e h)
