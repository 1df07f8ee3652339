-- What the last two lines say is true, for every text that is read: the steps keep what the root's square leaves, down to the last bit. Assumes nothing.
use Prim.Native.Nat.{ℕ, ◌+◌, ◌-◌, ◌*◌, ◌/◌, ◌%◌, ◌^◌, ◌≤◌, ◌<◌}
use mathlib.Core.Path.{◌≡◌, refl, sym, ap, ◌∙◌}
use mathlib.Core.Bool.{Bool, true, false, cond}
use mathlib.Core.List.{List}
use native.Mathlib.Nat.{mul_assoc, mul-pos}
use native.Mathlib.Omega.{arith}
use lib.Dec.{ltb}
use lib.Pow.{pow-add, pow_pos}
use borrow.Author.Tests.{ltb-true, ltb-false}
use Rattle.real.proofs.Rounded.{stays, moves}
use Rattle.rootsteps.specs.Request.{steps, request_of}
use Rattle.rootsteps.specs.Start.{top_of, shift_of, odd_of, significand_of, exponent_of, found_of}
use Rattle.rootsteps.specs.Table.{nearest_of}
use Rattle.rootsteps.proofs.Asking.{askable}
use Rattle.rootsteps.proofs.Scaling.{scales}
use Rattle.rootsteps.proofs.AllSteps.{last_ended}

-- what the lines tell of the root of n: its square and what is left are n, one more would be too much, and the root is at most half a unit from the nearest
pub record Told (n root left nearest : ℕ) : Type 0 where
  pub sum : root * root + left ≡ n
  pub whole : left ≤ 2 * root
  pub below : nearest * nearest < n + nearest
  pub above : n ≤ nearest * nearest + nearest

-- the significand and the weight of the leading bit make the number times its power of 2
in_all : (number bits : ℕ) → significand_of number bits * top_of bits ≡ number * 2 ^ exponent_of number bits
unfolding significand_of exponent_of
in_all number bits =
    let s = shift_of number bits in
    let o = odd_of number bits in
    mul_assoc number (2 ^ (s + o)) (2 ^ (bits - 1)) ∙ ap (λ (x : ℕ). number * x) (sym (pow-add 2 (s + o) (bits - 1)) ∙ ap (λ (k : ℕ). 2 ^ k) (let e : s + o + (bits - 1) ≡ s + (bits - 1) + o = omega arith in e))

-- which is even, so that the root has a whole power of 2
pub exponent_even : (number bits : ℕ) → exponent_of number bits % 2 ≡ 0
unfolding exponent_of
exponent_even number bits = omega arith

rounds : (n root left : ℕ) → 0 < n → root * root + left ≡ n → left ≤ 2 * root → Told n root left (nearest_of root left)
rounds n root left positive sum whole = by (ltb root left) refl
  where
    by : (t : Bool) → ltb root left ≡ t → Told n root left (cond t (root + 1) root)
    by true e = let near = moves n root left sum whole (ltb-true root left e) in record { sum = sum; whole = whole; below = near.0; above = near.1 }
    by false e = let near = stays n root left sum positive (ltb-false root left e) in record { sum = sum; whole = whole; below = near.0; above = near.1 }

pub lines_true : (text : List ℕ) (number bits : ℕ) → request_of text ≡ steps number bits
    → Told (number * 2 ^ exponent_of number bits) ((found_of number bits).twice / 2) (found_of number bits).rest (nearest_of ((found_of number bits).twice / 2) (found_of number bits).rest)
lines_true text number bits e =
    let asks = askable text (request_of text) (record { number = number; bits = bits }) refl e in
    let a = significand_of number bits in
    let f = found_of number bits in
    let last = last_ended a bits (scales number bits asks) in
    rounds (number * 2 ^ exponent_of number bits) (f.twice / 2) f.rest (mul-pos asks.positive (pow_pos (exponent_of number bits))) (last.0 ∙ in_all number bits) last.1
