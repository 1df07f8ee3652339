-- What goes by the sign or the size of the real part, case by case, over any record: cited by each record's `abs`, `signum` and `abs_sub`. Assumes nothing.
use mathlib.Core.Path.{◌≡◌}
use mathlib.Core.Bool.{Bool, true, false}
use lib.Ieee.{lt, eq}
use Rattle.real.specs.Operations.{zero}
use Rattle.real.specs.Sign.{sign_of}
use Rattle.algebra.specs.Algebra.{Algebra, zero_of, one_of, magnitude}
use Rattle.derivatives.specs.Apply.{abs_sub_of, signum_of}

-- s is the sign bit of the real part, as `is_negative` gives it
module _ {R : Type 0} (A : Algebra R) (x : R) (s : Bool) where
  pub abs_negative : (y : R) → s ≡ sign_of (A.re x) → s ≡ true → y ≡ A.neg x → y ≡ magnitude A x
  abs_negative y told e made = rw (← told, e) made

  pub abs_positive : s ≡ sign_of (A.re x) → s ≡ false → x ≡ magnitude A x
  abs_positive told e = rw (← told, e)

  pub signum_zero : s ≡ sign_of (A.re x) → s ≡ true → eq (A.re x) zero ≡ true → zero_of A ≡ signum_of A x
  signum_zero told e none = rw (← told, e, none)

  pub signum_negative : (y : R) → s ≡ sign_of (A.re x) → s ≡ true → eq (A.re x) zero ≡ false → y ≡ A.neg (one_of A) → y ≡ signum_of A x
  signum_negative y told e some made = rw (← told, e, some) made

  pub signum_positive : s ≡ sign_of (A.re x) → s ≡ false → one_of A ≡ signum_of A x
  signum_positive told e = rw (← told, e)

module _ {R : Type 0} (A : Algebra R) (x y : R) where
  pub abs_sub_above : (z : R) → lt (A.re y) (A.re x) ≡ true → z ≡ A.sub x y → z ≡ abs_sub_of A x y
  abs_sub_above z e made = rw e made

  pub abs_sub_else : lt (A.re y) (A.re x) ≡ false → zero_of A ≡ abs_sub_of A x y
  abs_sub_else e = rw e
