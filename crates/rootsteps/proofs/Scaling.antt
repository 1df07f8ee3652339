-- The number with so many digits: by its leading zeros, as the code shifts it, and within the bounds that the steps ask. Assumes nothing.
use Prim.Native.Nat.{ℕ, suc, ◌+◌, ◌-◌, ◌*◌, ◌%◌, ◌^◌, ◌≤◌, ◌<◌}
use mathlib.Core.Path.{◌≡◌, sym, ap, ◌∙◌, subst}
use native.Mathlib.Nat.{le_trans, le_of_eq, lt_of_lt_of_le, lt_of_le_of_lt, lt_of_not-le, lt_irrefl, mul-le-mul_right}
use native.Mathlib.Omega.{arith}
use lib.Count.{count_leading_zeros, leading_top, leading_le}
use lib.Dec.{lit<}
use lib.Ieee.{size}
use lib.Ieee.Digits.{size-lt, size-le, size_reaches}
use lib.Pow.{pow-add, pow_mono, shl_lt, shl_exact}
use Rattle.rootsteps.specs.Request.{most_bits, Askable}
use Rattle.rootsteps.specs.Start.{top_of, shift_of, odd_of, significand_of, exponent_of, Scales}

-- a bit of a small weight, as the code shifts it there
pub weight : (k : ℕ) → k ≤ most_bits → 1 * 2 ^ k % 2 ^ 64 ≡ 2 ^ k
weight k h = shl_exact {a = 1} 1 k 64 (lit< tt) (omega arith) ∙ (let e : 1 * 2 ^ k ≡ 2 ^ k = omega arith in e)

module _ (number bits : ℕ) (asks : Askable number bits) where
  in_word : number < 2 ^ 64
  in_word = lt_of_lt_of_le asks.fits (pow_mono {i = bits} {j = 64} (let h = asks.few in omega arith))

  pub zeros_few : count_leading_zeros 64 number ≤ 64
  zeros_few = leading_le 64 number

  -- the digits of a number are those that its leading zeros leave
  pub digits_left : 64 - count_leading_zeros 64 number ≡ size number
  digits_left =
      let l = leading_top 64 number asks.positive in_word in
      let j = l.0 in
      let up : size number ≤ suc j = size-le number (suc j) l.3 in
      let down : j < size number = lt_of_not-le (λ (g : size number ≤ j). lt_irrefl (2 ^ j) (lt_of_le_of_lt l.2 (lt_of_lt_of_le (size-lt number) (pow_mono g)))) in
      let whole : count_leading_zeros 64 number + suc j ≡ 64 = l.1 in
      omega arith

  digits_few : size number ≤ bits
  digits_few = size-le number bits asks.fits

  digits_some : 0 < size number
  digits_some = lt_of_not-le (λ (g : size number ≤ 0). lt_irrefl 0 (lt_of_lt_of_le asks.positive (let h : number < 2 ^ 0 = lt_of_lt_of_le (size-lt number) (pow_mono g) in omega arith)))

  pub shift_there : 64 - count_leading_zeros 64 number ≤ bits
  shift_there = le_trans (le_of_eq digits_left) digits_few

  odd_few : odd_of number bits ≤ 1
  odd_few = omega arith

  pub scaled_is : number * 2 ^ (bits - (64 - count_leading_zeros 64 number) + (bits - (64 - count_leading_zeros 64 number) + (bits - 1)) % 2) % 2 ^ 64 ≡ significand_of number bits
  unfolding significand_of
  scaled_is =
      ap (λ (d : ℕ). number * 2 ^ (bits - d + (bits - d + (bits - 1)) % 2) % 2 ^ 64) digits_left
      ∙ shl_exact (size number) (shift_of number bits + odd_of number bits) 64 (size-lt number) (let h = asks.few in let g = digits_few in let k = odd_few in omega arith)

  pub exponent_is : bits - (64 - count_leading_zeros 64 number) + (bits - 1) + (bits - (64 - count_leading_zeros 64 number) + (bits - 1)) % 2 ≡ exponent_of number bits
  unfolding exponent_of
  exponent_is = ap (λ (d : ℕ). bits - d + (bits - 1) + (bits - d + (bits - 1)) % 2) digits_left

  pub scales : Scales bits (significand_of number bits)
  unfolding significand_of
  scales =
      let z = size number in
      let k = shift_of number bits + odd_of number bits in
      let few = digits_few in
      let some = digits_some in
      let odd = odd_few in
      let reaches : 2 ^ (z - 1) ≤ number = size_reaches number (z - 1) (omega arith) in
      record {
        some = asks.some;
        few = asks.few;
        low = le_trans (pow_mono {i = bits - 1} {j = z - 1 + k} (omega arith)) (le_trans (le_of_eq (pow-add 2 (z - 1) k)) (mul-le-mul_right (2 ^ k) reaches));
        high = lt_of_lt_of_le (shl_lt z k (size-lt number)) (le_trans (pow_mono {i = z + k} {j = bits - 1 + 2} (let h = asks.some in omega arith)) (le_of_eq (pow-add 2 (bits - 1) 2 ∙ (let e : 2 ^ (bits - 1) * 2 ^ 2 ≡ 4 * 2 ^ (bits - 1) = omega arith in e))));
      }

  pub scales_by : (a : ℕ) → a ≡ significand_of number bits → Scales bits a
  scales_by a e = subst (Scales bits) (sym e) scales
