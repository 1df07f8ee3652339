-- Squares of whole numbers, and the whole root of the definitions: w * w ≤ n < (w + 1) * (w + 1). Assumes nothing.
use mathlib.Core.Path.{◌≡◌}
use Prim.Native.Nat.{ℕ, zero, suc, ◌+◌, ◌*◌, ◌/◌, ◌^◌, ◌≤◌, ◌<◌}
use native.Mathlib.Nat.{add-mul, mul-add, mul-mul-mul_comm, mul-le-mul, lt_of_not-le, not-le_of_lt, lt_of_lt_of_le, pow-succ'}
use native.Mathlib.Omega.{arith}
use mathlib.Core.Bool.{Bool, true, false, not, cond}
use lib.Dec.{T, leb, leb→le, nleb→lt}
use lib.Ieee.{size}
use lib.Ieee.Digits.{size-lt}
use Rattle.real.specs.Root.{root_in, whole_root}

pub square_lt : (a b : ℕ) → a * a < b * b → a < b
square_lt a b h = lt_of_not-le (λ (g : b ≤ a). not-le_of_lt h (mul-le-mul g g))

pub square_suc : (q : ℕ) → (q + 1) * (q + 1) ≡ q * q + 2 * q + 1
square_suc q =
    let e : (q + 1) * (q + 1) ≡ (q + 1) * q + (q + 1) * 1 = mul-add (q + 1) q 1 in
    let f : (q + 1) * q ≡ q * q + 1 * q = add-mul q 1 q in
    omega (arith, e, f)

pub square_twice : (q : ℕ) → (2 * q) * (2 * q) ≡ 4 * (q * q)
square_twice q = mul-mul-mul_comm 2 q 2 q

pub square_middle : (q : ℕ) → (2 * q + 1) * (2 * q + 1) ≡ 4 * (q * q) + 4 * q + 1
square_middle q = omega (arith, square_suc (2 * q), square_twice q)

abbrev pub IsRoot : ℕ → ℕ → Type 0
IsRoot n w = (w * w ≤ n) × (n < (w + 1) * (w + 1))

-- from the root of n / 4 to that of n
next : (n v : ℕ) → IsRoot (n / 4) v → IsRoot n (cond (leb ((2 * v + 1) * (2 * v + 1)) n) (2 * v + 1) (2 * v))
next n v h = go (leb ((2 * v + 1) * (2 * v + 1)) n) (leb→le ((2 * v + 1) * (2 * v + 1)) n) (nleb→lt ((2 * v + 1) * (2 * v + 1)) n)
  where
    below : (2 * v) * (2 * v) ≤ n
    below = omega (arith, h.0, square_twice v)

    above : n < (2 * v + 1 + 1) * (2 * v + 1 + 1)
    above = omega (arith, h.1, square_suc v, square_suc (2 * v + 1), square_middle v)

    go : (b : Bool) → (T b → (2 * v + 1) * (2 * v + 1) ≤ n) → (T (not b) → n < (2 * v + 1) * (2 * v + 1)) → IsRoot n (cond b (2 * v + 1) (2 * v))
    go true y n = (y tt, above)
    go false y n = (below, n tt)

quarter : (n d : ℕ) → n < 4 ^ suc d → n / 4 < 4 ^ d
quarter n d h = omega (arith, pow-succ' 4 d)

root_in-is : (d n : ℕ) → n < 4 ^ d → IsRoot n (root_in d n)
unfolding root_in
root_in-is zero n h = (omega arith, omega arith)
root_in-is (suc d) n h = next n (root_in d (n / 4)) (root_in-is d (n / 4) (quarter n d h))

two_four : (d : ℕ) → 2 ^ d ≤ 4 ^ d
two_four zero = omega arith
two_four (suc d) = omega (arith, two_four d, pow-succ' 2 d, pow-succ' 4 d)

pub whole_root-is : (n : ℕ) → IsRoot n (whole_root n)
unfolding whole_root
whole_root-is n = root_in-is (size n) n (lt_of_lt_of_le (size-lt n) (two_four (size n)))
