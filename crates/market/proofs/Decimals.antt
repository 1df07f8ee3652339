-- Digits in front of a text, read, and the decimal of a number, whose digits spell it. Assumes nothing.
use Prim.Native.Nat.{ℕ, zero, suc, ◌+◌, ◌-◌, ◌*◌, ◌/◌, ◌%◌, ◌^◌, ◌<◌, ◌≤◌}
use mathlib.Core.Path.{◌≡◌, refl, sym, ap, ◌∙◌, subst}
use mathlib.Core.Bool.{Bool, true, false, cond}
use mathlib.Core.List.{List, [], ◌∷◌, ◌++◌}
use native.Mathlib.Nat.{pow-suc, mul_assoc, div-lt_iff_lt-mul}
use native.Mathlib.Omega.{arith}
use lib.Dec.{ltb, lit<}
use lib.ListN.{get_or-append}
use borrow.Author.Tests.{lt-ltb, ltb-true}
use Rattle.io.specs.Digits.{last_digits, hex_digit_ascii}
use Rattle.refusals.specs.Largest as largest
use Rattle.texts.specs.Bytes as byte
use Rattle.texts.specs.Digits.{byte_at, is_digit, digit_value}
use Rattle.texts.specs.Numbers.{places, decimal_text}
use Rattle.texts.specs.Whole.{worth, past, AllDigits}
use Rattle.texts.proofs.Digits.{value_digit}
use Rattle.texts.proofs.Decimals.{length_digits}
use Rattle.market.specs.Format.{Digits}

pub digits_after : (b : ℕ) (l : List ℕ) → AllDigits (b ∷ l) → AllDigits l
digits_after b l d j h = d (suc j) (omega arith)

-- ---- digits in front of a text
pub worth_more : (l r : List ℕ) (v : ℕ) → AllDigits l → worth v (l ++ r) ≡ worth (worth v l) r
unfolding worth
worth_more [] r v d = refl
worth_more (b ∷ l) r v d = rw (d 0 (omega arith)) (worth_more l r (v * 10 + digit_value b) (digits_after b l d))

pub past_more : (l r : List ℕ) → AllDigits l → past (l ++ r) ≡ past r
unfolding past
past_more [] r d = refl
past_more (b ∷ l) r d = rw (d 0 (omega arith)) (past_more l r (digits_after b l d))

module _ (l : List ℕ) (d : Digits l) where
  pub first_digit : (r : List ℕ) → is_digit 10 (byte_at (l ++ r) 0) ≡ true
  first_digit r = ap (is_digit 10) (get_or-append l r 0 0 d.some) ∙ d.all 0 d.some

  -- and a byte after them that is none
  module _ (b : ℕ) (other : is_digit 10 b ≡ false) (r : List ℕ) where
    pub worth_read : worth 0 (l ++ (b ∷ r)) ≡ worth 0 l
    unfolding worth
    worth_read = worth_more l (b ∷ r) 0 d.all ∙ rw other

    pub past_read : past (l ++ (b ∷ r)) ≡ b ∷ r
    unfolding past
    past_read = past_more l (b ∷ r) d.all ∙ rw other

pub space_ends : is_digit 10 byte.space ≡ false
unfolding digit_value
space_ends = refl

pub newline_ends : is_digit 10 byte.newline ≡ false
unfolding digit_value
newline_ends = refl

-- ---- the digits of a number
value_glyph : (d : ℕ) → d < 10 → digit_value (hex_digit_ascii d) ≡ d
value_glyph d h =
    ap digit_value (let e : hex_digit_ascii d ≡ byte.digit_zero + d = rw (lt-ltb d 10 h) in e)
    ∙ sym (value_digit (byte.digit_zero + d) (omega arith) (omega arith))
    ∙ (let z : byte.digit_zero + d - byte.digit_zero ≡ d = omega arith in z)

glyph_digit : (d : ℕ) → d < 10 → is_digit 10 (hex_digit_ascii d) ≡ true
glyph_digit d h = ap (λ (v : ℕ). ltb v 10) (value_glyph d h) ∙ lt-ltb d 10 h

low : (n : ℕ) → n % 10 < 10
low n = omega arith

-- all of a list, and one more
snoc_digits : (l : List ℕ) (b : ℕ) → AllDigits l → is_digit 10 b ≡ true → AllDigits (l ++ (b ∷ []))
snoc_digits [] b d e zero h = e
snoc_digits [] b d e (suc j) h = absurd (omega arith)
snoc_digits (x ∷ l) b d e zero h = d 0 (omega arith)
snoc_digits (x ∷ l) b d e (suc j) h = snoc_digits l b (digits_after x l d) e j (omega arith)

written_digits : (k n : ℕ) → AllDigits (last_digits 10 k n)
written_digits zero n = λ j h. absurd (omega arith)
written_digits (suc k) n = snoc_digits (last_digits 10 k (n / 10)) (hex_digit_ascii (n % 10)) (written_digits k (n / 10)) (glyph_digit (n % 10) (low n))

-- x * 10 ^ k + n / 10, with the last digit
grown : (x p q n : ℕ) → q ≡ p * 10 → (x * p + n / 10) * 10 + n % 10 ≡ x * q + n
grown x p q n e =
    let a : x * p * 10 ≡ x * (p * 10) = mul_assoc x p 10 in
    let b : x * q ≡ x * (p * 10) = ap (λ (y : ℕ). x * y) e in
    let d : (x * p + n / 10) * 10 ≡ x * p * 10 + n / 10 * 10 = omega arith in
    omega arith

-- below the next power of ten, without the last digit
pub without_last : (n k : ℕ) → n < 10 ^ suc k → n / 10 < 10 ^ k
without_last n k h = (div-lt_iff_lt-mul (lit< tt)).1 (subst (λ (y : ℕ). n < y) (pow-suc 10 k) h)

worth_digits : (k n x : ℕ) → n < 10 ^ k → worth x (last_digits 10 k n) ≡ x * 10 ^ k + n
unfolding worth
worth_digits zero n x h = omega arith
worth_digits (suc k) n x h =
    let g = hex_digit_ascii (n % 10) in
    worth_more (last_digits 10 k (n / 10)) (g ∷ []) x (written_digits k (n / 10))
    ∙ rw (glyph_digit (n % 10) (low n), value_glyph (n % 10) (low n), worth_digits k (n / 10) x (without_last n k h)) (grown x (10 ^ k) (10 ^ suc k) n (pow-suc 10 k))

-- ---- a number in decimal: digits enough, and one at least
enough_by : (d n : ℕ) (t : Bool) → ltb n 10 ≡ t → n / 10 < 10 ^ places d (n / 10) → n < 10 ^ cond t 1 (suc (places d (n / 10)))
enough_by d n true e i = ltb-true n 10 e
enough_by d n false e i = subst (λ (y : ℕ). n < y) (sym (pow-suc 10 (places d (n / 10)))) ((div-lt_iff_lt-mul (lit< tt)).0 i)

enough : (d n : ℕ) → n < 10 ^ suc d → n < 10 ^ places d n
unfolding places
enough zero n h = h
enough (suc d) n h = enough_by d n (ltb n 10) refl (enough d (n / 10) (without_last n (suc d) h))

some_by : (t : Bool) (k : ℕ) → 0 < cond t 1 (suc k)
some_by true k = omega arith
some_by false k = omega arith

some_place : (d n : ℕ) → 0 < places d n
unfolding places
some_place zero n = omega arith
some_place (suc d) n = some_by (ltb n 10) (places d (n / 10))

pub decimal_digits : (v : ℕ) → Digits (decimal_text v)
unfolding decimal_text
decimal_digits v = record { some = omega (arith, length_digits 10 (places 19 v) v, some_place 19 v); all = written_digits (places 19 v) v }

pub decimal_worth : (v : ℕ) → v ≤ largest.whole → worth 0 (decimal_text v) ≡ v
unfolding decimal_text
decimal_worth v h = worth_digits (places 19 v) v 0 (enough 19 v (let z : v < 10 ^ 20 = omega arith in z)) ∙ (let z : 0 * 10 ^ places 19 v + v ≡ v = omega arith in z)
