-- Digits that were read, written again: without a zero in front they are the decimal of what they spell, and no decimal has one. Assumes nothing.
use Prim.Native.Nat.{ℕ, zero, suc, ◌+◌, ◌-◌, ◌*◌, ◌/◌, ◌%◌, ◌^◌, ◌<◌, ◌≤◌}
use mathlib.Core.Path.{◌≡◌, refl, sym, ap, ◌∙◌, subst}
use mathlib.Core.Bool.{Bool, true, false, cond}
use mathlib.Core.List.{List, [], ◌∷◌, ◌++◌, append-nil}
use native.Mathlib.Nat.{pow-suc, mul_assoc, mul_right_comm, mul-le-mul_right, le-div_iff_mul-le}
use native.Mathlib.Omega.{arith}
use lib.Dec.{ltb, lit<}
use lib.ListN.{length}
use lib.Seq.{append_snoc}
use borrow.Author.Tests.{ltb-true, ltb-false}
use Rattle.io.specs.Digits.{last_digits, hex_digit_ascii, IsDigitCount}
use Rattle.refusals.specs.Largest as largest
use Rattle.texts.specs.Digits.{digit_value}
use Rattle.texts.specs.Numbers.{places, decimal_text}
use Rattle.texts.specs.Whole.{worth, AllDigits}
use Rattle.texts.proofs.Decimals.{decimal_is, length_digits}
use Rattle.texts.proofs.DigitsBack.{glyph_value}
use Rattle.market.specs.Format.{Digits, Short}
use Rattle.market.proofs.Decimals.{digits_after, decimal_digits, decimal_worth}

-- the value of the first digit
first_small : (b : ℕ) (l : List ℕ) → AllDigits (b ∷ l) → digit_value b < 10
first_small b l d = ltb-true (digit_value b) 10 (d 0 (omega arith))

-- ---- as many digits as were read
split : (n d : ℕ) → d < 10 → ((n * 10 + d) / 10 ≡ n) × ((n * 10 + d) % 10 ≡ d)
split n d h = (omega arith, omega arith)

digits_again : (l : List ℕ) (k n : ℕ) → AllDigits l → last_digits 10 (k + length l) (worth n l) ≡ last_digits 10 k n ++ l
unfolding worth
digits_again [] k n d = ap (λ (m : ℕ). last_digits 10 m n) (let z : k + 0 ≡ k = omega arith in z) ∙ sym (append-nil (last_digits 10 k n))
digits_again (b ∷ l) k n d =
    let small = first_small b l d in
    let s = split n (digit_value b) small in
    rw (d 0 (omega arith))
    (ap (λ (m : ℕ). last_digits 10 m (worth (n * 10 + digit_value b) l)) (let z : k + suc (length l) ≡ suc k + length l = omega arith in z)
    ∙ digits_again l (suc k) (n * 10 + digit_value b) (digits_after b l d)
    ∙ (λ i. last_digits 10 k (s.0 i) ++ (hex_digit_ascii (s.1 i) ∷ []) ++ l)
    ∙ ap (λ (g : ℕ). last_digits 10 k n ++ (g ∷ []) ++ l) (glyph_value b (omega arith))
    ∙ append_snoc (last_digits 10 k n) b l)

-- ---- no fewer spell the number
shifted : (x p q : ℕ) → q ≡ p * 10 → x * q ≡ x * 10 * p
shifted x p q e = ap (λ (y : ℕ). x * y) e ∙ sym (mul_assoc x p 10) ∙ mul_right_comm x p 10

worth_least : (l : List ℕ) (n : ℕ) → AllDigits l → n * 10 ^ length l ≤ worth n l
unfolding worth
worth_least [] n d = omega arith
worth_least (b ∷ l) n d =
    let p = 10 ^ length l in
    let e : n * 10 ^ suc (length l) ≡ n * 10 * p = shifted n p (10 ^ suc (length l)) (pow-suc 10 (length l)) in
    let g : n * 10 * p ≤ (n * 10 + digit_value b) * p = mul-le-mul_right p (omega arith) in
    rw (d 0 (omega arith)) (omega (arith, worth_least l (n * 10 + digit_value b) (digits_after b l d)))

worth_most : (l : List ℕ) (n : ℕ) → AllDigits l → worth n l < suc n * 10 ^ length l
unfolding worth
worth_most [] n d = omega arith
worth_most (b ∷ l) n d =
    let small = first_small b l d in
    let p = 10 ^ length l in
    let e : suc n * 10 ^ suc (length l) ≡ suc n * 10 * p = shifted (suc n) p (10 ^ suc (length l)) (pow-suc 10 (length l)) in
    let g : suc (n * 10 + digit_value b) * p ≤ suc n * 10 * p = mul-le-mul_right p (omega arith) in
    rw (d 0 (omega arith)) (omega (arith, worth_most l (n * 10 + digit_value b) (digits_after b l d)))

-- more than one digit, and no zero in front
worth_long : (l : List ℕ) → AllDigits l → Short l → 1 < length l → 10 ^ (length l - 1) ≤ worth 0 l
unfolding worth
worth_long [] d s h = absurd (omega arith)
worth_long (b ∷ l) d s h =
    let small = first_small b l d in
    let p = 10 ^ length l in
    let other : digit_value b ≡ 0 → ⊥ = (λ e. let z : suc (length l) ≡ 1 = s (sym (glyph_value b (omega arith)) ∙ ap hex_digit_ascii e) in omega arith) in
    let g : 1 * p ≤ (0 * 10 + digit_value b) * p = mul-le-mul_right p (omega arith) in
    subst (λ (k : ℕ). 10 ^ k ≤ worth 0 (b ∷ l)) (let z : length l ≡ suc (length l) - 1 = omega arith in z)
    (rw (d 0 (omega arith)) (omega (arith, worth_least l (0 * 10 + digit_value b) (digits_after b l d))))

pub decimal_back : (l : List ℕ) → Digits l → Short l → worth 0 l < 2 ^ 64 → decimal_text (worth 0 l) ≡ l
decimal_back l d s h =
    let fewest : IsDigitCount 10 1 (worth 0 l) (length l) = (d.some, omega (arith, worth_most l 0 d.all), worth_long l d.all s) in
    sym (decimal_is (worth 0 l) (length l) h fewest)
    ∙ ap (λ (k : ℕ). last_digits 10 k (worth 0 l)) (let z : length l ≡ 0 + length l = omega arith in z)
    ∙ digits_again l 0 0 d.all

-- ---- and a number is written without a zero in front
short_from : (l : List ℕ) → AllDigits l → ((k : ℕ) → length l ≡ suc (suc k) → 10 ^ suc k ≤ worth 0 l) → 0 < length l → Short l
unfolding worth digit_value
short_from [] d least some = absurd (omega arith)
short_from (b ∷ []) d least some = λ e. refl
short_from (b ∷ c ∷ l) d least some =
    λ e.
    let m = c ∷ l in
    let same : worth 0 (b ∷ m) ≡ worth 0 m = ap (λ (x : ℕ). worth 0 (x ∷ m)) e in
    absurd (omega (arith, least (length l) refl, worth_most m 0 (digits_after b m d)))

places_least_by : (d n k : ℕ) (t : Bool) → ltb n 10 ≡ t → ((j : ℕ) → places d (n / 10) ≡ suc (suc j) → 10 ^ suc j ≤ n / 10) → cond t 1 (suc (places d (n / 10))) ≡ suc (suc k) → 10 ^ suc k ≤ n
places_least_by d n k true t more e = absurd (omega arith)
places_least_by d n zero false t more e = ltb-false n 10 t
places_least_by d n (suc j) false t more e = subst (λ (x : ℕ). x ≤ n) (sym (pow-suc 10 (suc j))) ((le-div_iff_mul-le (lit< tt)).0 (more j (omega arith)))

places_least : (d n k : ℕ) → places d n ≡ suc (suc k) → 10 ^ suc k ≤ n
unfolding places
places_least zero n k e = absurd (omega arith)
places_least (suc d) n k e = places_least_by d n k (ltb n 10) refl (λ j q. places_least d (n / 10) j q) e

pub decimal_tidy : (v : ℕ) → v ≤ largest.whole → Short (decimal_text v)
unfolding decimal_text
decimal_tidy v small =
    let same : worth 0 (decimal_text v) ≡ v = decimal_worth v small in
    short_from (decimal_text v) (decimal_digits v).all
    (λ k e. subst (λ (x : ℕ). 10 ^ suc k ≤ x) (sym same) (places_least 19 v k (sym (length_digits 10 (places 19 v) v) ∙ e)))
    (decimal_digits v).some
