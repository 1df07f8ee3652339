-- The fewest digits, as `io` counts them, are those of the definitions, and how many they are. Assumes nothing.
use Prim.Native.Nat.{ℕ, zero, suc, ◌+◌, ◌-◌, ◌*◌, ◌/◌, ◌^◌, ◌<◌, ◌≤◌}
use mathlib.Core.Path.{◌≡◌, refl, sym, ap, subst, ◌∙◌}
use mathlib.Core.Bool.{Bool, true, false, cond}
use mathlib.Core.List.{List}
use native.Mathlib.Nat.{pow-suc, pow-le-pow_right, div-lt_iff_lt-mul, le-div_iff_mul-le, lt_of_lt_of_le}
use native.Mathlib.Omega.{arith}
use lib.Dec.{ltb, lit<, lit≤}
use lib.ListN.{length, length-append}
use borrow.Author.Tests.{ltb-true, ltb-false, lt-ltb, le-ltb}
use Rattle.io.specs.Digits.{last_digits, IsDigitCount}
use Rattle.texts.specs.Page.{Page, written}
use Rattle.texts.specs.Numbers.{places, decimal_text, hex_text}

-- the fewest digits are as many as `places` says
pub places_is : (d n k : ℕ) → k ≤ suc d → IsDigitCount 10 1 n k → k ≡ places d n
unfolding places
places_is zero n k h f = omega (arith, f.0)
places_is (suc d) n zero h f = absurd (omega (arith, f.0))
places_is (suc d) n (suc zero) h f = rw (lt-ltb n 10 f.1)
places_is (suc d) n (suc (suc j)) h f =
    let e : 10 ^ suc j ≡ 10 ^ j * 10 = pow-suc 10 j in
    let low : 10 ^ suc j ≤ n = subst (λ (x : ℕ). 10 ^ x ≤ n) (let s : suc (suc j) - 1 ≡ suc j = omega arith in s) (f.2 (omega arith)) in
    let one : 1 ≤ 10 ^ j = pow-le-pow_right (lit< tt) {i = 0} (omega arith) in
    let ten : 10 ≤ n = omega arith in
    rw (le-ltb n 10 ten)
    (ap suc (places_is d (n / 10) (suc j) (omega arith) (omega arith, (div-lt_iff_lt-mul (lit< tt)).1 (subst (λ (x : ℕ). n < x) (pow-suc 10 (suc j)) f.1), rest j n low)))
  where
    rest : (j n : ℕ) → 10 ^ suc j ≤ n → 1 < suc j → 10 ^ (suc j - 1) ≤ n / 10
    rest j n low h =
        let e : suc j - 1 ≡ j = omega arith in
        subst (λ (x : ℕ). 10 ^ x ≤ n / 10) (sym e) ((le-div_iff_mul-le (lit< tt)).1 (subst (λ (x : ℕ). x ≤ n) (pow-suc 10 j) low))

-- a number below b ^ m has at most m digits in base b
fewest_most : (b least n k m : ℕ) → 0 < b → least ≤ m → n < b ^ m → IsDigitCount b least n k → k ≤ m
fewest_most b least n k m hb hl hn f = by (ltb m k) refl
  where
    by : (t : Bool) → ltb m k ≡ t → k ≤ m
    by true t = let h : m < k = ltb-true m k t in absurd (clash (f.2 (omega arith)) (pow-le-pow_right hb {i = m} {j = k - 1} (omega arith)) hn)
      where
        clash : b ^ (k - 1) ≤ n → b ^ m ≤ b ^ (k - 1) → n < b ^ m → ⊥
        clash x y z = omega arith
    by false t = ltb-false m k t

pub decimal_is : (n k : ℕ) → n < 2 ^ 64 → IsDigitCount 10 1 n k → last_digits 10 k n ≡ decimal_text n
unfolding decimal_text
decimal_is n k h f = ap (λ (x : ℕ). last_digits 10 x n) (places_is 19 n k (fewest_most 10 1 n k 20 (lit< tt) (lit≤ tt) (lt_of_lt_of_le h (lit≤ tt)) f) f)

hex_is : (w k : ℕ) → w < 2 ^ 64 → IsDigitCount 16 16 w k → last_digits 16 k w ≡ hex_text w
unfolding hex_text
hex_is w k h f = let g : k ≤ 16 = fewest_most 16 16 w k 16 (lit< tt) (lit≤ tt) h f in ap (λ (x : ℕ). last_digits 16 x w) (let e : k ≡ 16 = omega (arith, f.0) in e)

-- ---- written: the 16 digits of a word
pub hex_written : (p q : Page) (l : List ℕ) (w k : ℕ) → q ≡ written p l → l ≡ last_digits 16 k w → IsDigitCount 16 16 w k → w < 2 ^ 64 → q ≡ written p (hex_text w)
hex_written p q l w k g e f h = g ∙ ap (written p) (e ∙ hex_is w k h f)

-- ---- how long
pub length_digits : (b k n : ℕ) → length (last_digits b k n) ≡ k
length_digits b zero n = refl
length_digits b (suc k) n = length-append (last_digits b k (n / b)) _ ∙ ap (λ (x : ℕ). x + 1) (length_digits b k (n / b)) ∙ (let e : k + 1 ≡ suc k = omega arith in e)

length_places : (d n : ℕ) → places d n ≤ suc d
unfolding places
length_places zero n = omega arith
length_places (suc d) n = by (ltb n 10) (length_places d (n / 10))
  where
    by : {r : ℕ} (b : Bool) → r ≤ suc d → cond b 1 (suc r) ≤ suc (suc d)
    by true h = omega arith
    by false h = omega arith

pub length_decimal : (n : ℕ) → length (decimal_text n) ≤ 20
unfolding decimal_text
length_decimal n = omega (arith, length_digits 10 (places 19 n) n, length_places 19 n)

pub length_hex : (w : ℕ) → length (hex_text w) ≡ 16
unfolding hex_text
length_hex w = length_digits 16 16 w
