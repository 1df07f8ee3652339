-- How long a text is: every line has a bound, so that the writer's page holds every text. Assumes nothing.
use Prim.Native.Nat.{ℕ, zero, suc, ◌*◌, ◌/◌, ◌^◌, ◌<◌, ◌≤◌}
use mathlib.Core.Path.{◌≡◌, refl}
use mathlib.Core.Bool.{Bool, true, false, cond}
use mathlib.Core.List.{List, [], ◌++◌}
use native.Mathlib.Nat.{mul-le-mul_left, mul-le-mul_right, le_trans}
use native.Mathlib.Omega.{arith}
use lib.Dec.{ltb}
use lib.ListN.{length, length-append}
use lib.Ieee.{Float, lt}
use borrow.Author.Tests.{ltb-false}
use Rattle.refusals.specs.Largest as largest
use Rattle.real.specs.Operations as float
use Rattle.texts.specs.Numbers.{places, decimal_text}
use Rattle.texts.proofs.Decimals.{length_digits}
use Rattle.market.specs.Format.{header, sign}
use Rattle.market.specs.Text.{magnitude, whole_part, is_whole, number_line, line_of, entry_at, lines_of, size_text, text_of}
use Rattle.market.specs.Write.{page}
use Rattle.market.proofs.Decimals.{without_last}
use Rattle.market.proofs.WholeFloats.{whole_small}

pub square_small : (n : ℕ) → n ≤ largest.n → n * n ≤ 1024
square_small n h = le_trans (mul-le-mul_left n h) (mul-le-mul_right largest.n h)

-- ---- a number
places_by : (d n : ℕ) (t : Bool) → ltb n 10 ≡ t → (m : ℕ) → n < 10 ^ suc m → ((k : ℕ) → n / 10 < 10 ^ suc k → places d (n / 10) ≤ suc k) → cond t 1 (suc (places d (n / 10))) ≤ suc m
places_by d n true e m h i = omega arith
places_by d n false e zero h i = absurd (let g : 10 ≤ n = ltb-false n 10 e in omega arith)
places_by d n false e (suc m) h i = omega (arith, i m (without_last n (suc m) h))

places_most : (d n m : ℕ) → n < 10 ^ suc m → places d n ≤ suc m
unfolding places
places_most zero n m h = omega arith
places_most (suc d) n m h = places_by d n (ltb n 10) refl m h (λ k g. places_most d (n / 10) k g)

decimal_short : (n : ℕ) → n ≤ largest.whole → length (decimal_text n) ≤ 16
unfolding decimal_text
decimal_short n h = omega (arith, length_digits 10 (places 19 n) n, places_most 19 n 15 (let z : n < 10 ^ 16 = omega arith in z))

-- ---- a line
sign_short : (minus : Bool) → length (sign minus) ≤ 1
sign_short true = omega arith
sign_short false = omega arith

number_short : (minus : Bool) (v : ℕ) → v ≤ largest.whole → length (number_line minus v) ≤ 18
unfolding number_line
number_short minus v h = simp length-append (omega (arith, sign_short minus, decimal_short v h))

line_short : (x : Float) → length (line_of x) ≤ 18
unfolding line_of
line_short x = by (is_whole x) refl
  where
    by : (t : Bool) → is_whole x ≡ t → length (cond t (number_line (lt x float.zero) (whole_part (magnitude x))) []) ≤ 18
    by true e = number_short (lt x float.zero) (whole_part (magnitude x)) (whole_small x e)
    by false e = omega arith

lines_short : (w n : ℕ) (a : List Float) (k : ℕ) → length (lines_of w n a k) ≤ 18 * k
unfolding lines_of
lines_short w n a zero = omega arith
lines_short w n a (suc k) = simp length-append (omega (arith, lines_short w n a k, line_short (entry_at w n a k)))

size_short : (n : ℕ) → n ≤ largest.n → length (size_text n) ≤ 34
unfolding size_text
size_short n h = simp length-append (omega (arith, decimal_short n (let z : n ≤ largest.whole = omega arith in z)))

-- ---- the text
pub text_short : (w n : ℕ) (a : List Float) → n ≤ largest.n → length (text_of w n a) ≤ page
unfolding text_of
text_short w n a h =
    omega (arith, length-append (header false ++ size_text n) (lines_of w n a (n * n)), length-append (header false) (size_text n), size_short n h, lines_short w n a (n * n), square_small n h)
