-- e (e - 1) and e (e - 1) (e - 2) fit an i32 for each e that powi takes. Assumes nothing.
use mathlib.Core.Path.{◌≡◌, refl}
use mathlib.Core.Bool.{Bool, true, false, cond}
use Prim.Native.Nat.{ℕ, zero, suc, ◌+◌, ◌-◌, ◌*◌, ◌≤◌, ◌<◌, ◌^◌}
use native.Mathlib.Nat.{le_refl, le_trans, lt_of_le_of_lt, mul-le-mul}
use native.Mathlib.Omega.{arith}
use lib.Dec.{ltb, lit<}
use lib.IntN.{ℤ, pos, negsuc, neg_ℤ, nat_abs, ◌+ℤ◌, ◌-ℤ◌, ◌*ℤ◌}
use lib.Signed.{mag}
use mir.Syntax.{w32}
use mir.Val.{SFits, to_z, of_z}
use mir.ValLaws.{to_z-of_z}
use Rattle.refusals.specs.Largest as largest

abs_neg : (n : ℕ) → nat_abs (neg_ℤ (pos n)) ≡ n
abs_neg zero = refl
abs_neg (suc n) = refl

abs_mul : (a b : ℤ) → nat_abs (a *ℤ b) ≡ nat_abs a * nat_abs b
abs_mul (pos a) (pos b) = refl
abs_mul (pos a) (negsuc b) = abs_neg (a * suc b)
abs_mul (negsuc a) (pos b) = abs_neg (suc a * b)
abs_mul (negsuc a) (negsuc b) = refl

abs_pick : (t : Bool) (a b k : ℕ) → a ≤ k → b ≤ k → nat_abs (cond t (negsuc a) (pos b)) ≤ suc k
abs_pick true a b k p q = omega arith
abs_pick false a b k p q = omega arith

abs_sub : (a : ℤ) (j : ℕ) → nat_abs (a +ℤ negsuc j) ≤ nat_abs a + suc j
abs_sub (pos n) j = le_trans (abs_pick (ltb n (suc j)) (suc j - suc n) (n - suc j) (n + j) (omega arith) (omega arith)) (omega arith)
abs_sub (negsuc n) j = omega arith

mag≤ : (z : ℤ) → mag z ≤ nat_abs z
mag≤ (pos n) = le_refl n
mag≤ (negsuc n) = omega arith

below : (k : ℕ) (z : ℤ) → nat_abs z ≤ k → k < 2 ^ 31 → SFits w32 z
below k z p q = record { sfits = lt_of_le_of_lt (le_trans (mag≤ z) p) q }

abbrev pub falling2 : ℤ → ℤ
falling2 e = e *ℤ (e -ℤ pos 1)

abbrev pub falling3 : ℤ → ℤ
falling3 e = falling2 e *ℤ (e -ℤ pos 2)

module _ (e : ℤ) (small : nat_abs e ≤ nat_abs largest.exponent) where
  one_less : nat_abs (e -ℤ pos 1) ≤ 1025
  one_less = le_trans (abs_sub e 0) (omega arith)

  two_less : nat_abs (e -ℤ pos 2) ≤ 1026
  two_less = le_trans (abs_sub e 1) (omega arith)

  second : nat_abs (falling2 e) ≤ 1049600
  second = rw (abs_mul e (e -ℤ pos 1)) (mul-le-mul small one_less)

  pub one_less_fits : SFits w32 (e -ℤ pos 1)
  one_less_fits = below 1025 _ one_less (lit< tt)

  pub two_less_fits : SFits w32 (e -ℤ pos 2)
  two_less_fits = below 1026 _ two_less (lit< tt)

  pub second_fits : SFits w32 (falling2 e)
  second_fits = below 1049600 _ second (lit< tt)

  pub third_fits : SFits w32 (falling3 e)
  third_fits = below 1076889600 _ (rw (abs_mul (falling2 e) (e -ℤ pos 2)) (mul-le-mul second two_less)) (lit< tt)

  -- what is read back from the bits of each is the number
  pub exp_back : to_z w32 (of_z w32 e) ≡ e
  exp_back = to_z-of_z w32 e (below 1024 e small (lit< tt))

  pub one_less_back : to_z w32 (of_z w32 (e -ℤ pos 1)) ≡ e -ℤ pos 1
  one_less_back = to_z-of_z w32 (e -ℤ pos 1) one_less_fits

  pub two_less_back : to_z w32 (of_z w32 (e -ℤ pos 2)) ≡ e -ℤ pos 2
  two_less_back = to_z-of_z w32 (e -ℤ pos 2) two_less_fits

  pub second_back : to_z w32 (of_z w32 (falling2 e)) ≡ falling2 e
  second_back = to_z-of_z w32 (falling2 e) second_fits

  pub third_back : to_z w32 (of_z w32 (falling3 e)) ≡ falling3 e
  third_back = to_z-of_z w32 (falling3 e) third_fits
