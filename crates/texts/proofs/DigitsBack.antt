-- Digits that were read, written again, are the bytes that were read. Assumes nothing.
use Prim.Native.Nat.{ℕ, zero, suc, ◌+◌, ◌-◌, ◌*◌, ◌/◌, ◌%◌, ◌^◌, ◌<◌, ◌≤◌}
use mathlib.Core.Path.{◌≡◌, refl, sym, ap, ◌∙◌}
use mathlib.Core.Bool.{Bool, true, false, cond}
use mathlib.Core.List.{List, [], ◌∷◌, ◌++◌}
use native.Mathlib.Nat.{pow-suc}
use native.Mathlib.Omega.{arith}
use lib.Dec.{ltb, lit<}
use lib.ListN.{length, get_or, take, drop, length-drop}
use lib.Seq.{take-suc, get_or-drop}
use borrow.Author.Tests.{ltb-true, ltb-false, lt-ltb, le-ltb}
use Rattle.io.specs.Digits.{hex_digit_ascii, last_digits}
use Rattle.texts.specs.Bytes.{digit_zero, digit_nine, letter_a, letter_f}
use Rattle.texts.specs.Digits.{byte_at, is_digit, digit_value, digit_run, number_at}
use Rattle.texts.proofs.Digits.{value_under_digits, value_digit, value_between, value_letter, value_over_letters}

-- ---- a digit, written
clash : (x : ℕ) → x < 16 → 16 ≡ x → ⊥
clash x h e = omega arith

pub low_glyph : (d : ℕ) → d < 10 → hex_digit_ascii d ≡ 48 + d
low_glyph d h = rw (lt-ltb d 10 h)

high_glyph : (d : ℕ) → 10 ≤ d → hex_digit_ascii d ≡ 87 + d
high_glyph d h = rw (le-ltb d 10 h)

pub glyph_value : (b : ℕ) → digit_value b < 16 → hex_digit_ascii (digit_value b) ≡ b
glyph_value b h = under (ltb b 48) refl
  where
    over : (t : Bool) → ltb letter_f b ≡ t → letter_a ≤ b → hex_digit_ascii (digit_value b) ≡ b
    over true e g = absurd (clash (digit_value b) h (value_over_letters b (ltb-true letter_f b e)))
    over false e g =
        let k : b ≤ letter_f = ltb-false letter_f b e in
        ap hex_digit_ascii (sym (value_letter b g k)) ∙ high_glyph (b - letter_a + 10) (omega arith) ∙ (let z : 87 + (b - letter_a + 10) ≡ b = omega arith in z)

    between : (t : Bool) → ltb b letter_a ≡ t → digit_nine < b → hex_digit_ascii (digit_value b) ≡ b
    between true e g = absurd (clash (digit_value b) h (value_between b g (ltb-true b letter_a e)))
    between false e g = over (ltb letter_f b) refl (ltb-false b letter_a e)

    digit : (t : Bool) → ltb digit_nine b ≡ t → digit_zero ≤ b → hex_digit_ascii (digit_value b) ≡ b
    digit true e g = between (ltb b letter_a) refl (ltb-true digit_nine b e)
    digit false e g =
        let k : b ≤ digit_nine = ltb-false digit_nine b e in
        ap hex_digit_ascii (sym (value_digit b g k)) ∙ low_glyph (b - digit_zero) (omega arith) ∙ (let z : digit_zero + (b - digit_zero) ≡ b = omega arith in z)

    under : (t : Bool) → ltb b digit_zero ≡ t → hex_digit_ascii (digit_value b) ≡ b
    under true e = absurd (clash (digit_value b) h (value_under_digits b (ltb-true b digit_zero e)))
    under false e = digit (ltb digit_nine b) refl (ltb-false b digit_zero e)

-- ---- as many digits as were asked for: each byte is one
module _ (base : ℕ) (text : List ℕ) where
  full_first : (d r : ℕ) (t : Bool) → cond t (suc r) 0 ≡ suc d → (t ≡ true) × (r ≡ d)
  full_first d r true e = (refl, omega arith)
  full_first d r false e = absurd (omega arith)

  pub full_run : (d p k : ℕ) → digit_run base d text p ≡ d → k < d → is_digit base (byte_at text (p + k)) ≡ true
  unfolding digit_run
  full_run zero p k e h = absurd (omega arith)
  full_run (suc d) p zero e h = ap (λ (q : ℕ). is_digit base (byte_at text q)) (let z : p + 0 ≡ p = omega arith in z) ∙ (full_first d (digit_run base d text (p + 1)) (is_digit base (byte_at text p)) e).0
  full_run (suc d) p (suc k) e h =
      ap (λ (q : ℕ). is_digit base (byte_at text q)) (let z : p + suc k ≡ p + 1 + k = omega arith in z)
      ∙ full_run d (p + 1) k (full_first d (digit_run base d text (p + 1)) (is_digit base (byte_at text p)) e).1 (omega arith)

-- ---- the digits of a word, spelled and written again
module _ (text : List ℕ) (p : ℕ) where
  split : (m d : ℕ) → d < 16 → ((m * 16 + d) / 16 ≡ m) × ((m * 16 + d) % 16 ≡ d)
  split m d h = (omega arith, omega arith)

  pub spelled_again : (k : ℕ) → p + k ≤ length text → ((j : ℕ) → j < k → is_digit 16 (byte_at text (p + j)) ≡ true) → last_digits 16 k (number_at 16 text p k) ≡ take k (drop p text)
  unfolding number_at
  spelled_again zero h g = refl
  spelled_again (suc k) h g =
      let b = byte_at text (p + k) in
      let small : digit_value b < 16 = ltb-true (digit_value b) 16 (g k (omega arith)) in
      let s = split (number_at 16 text p k) (digit_value b) small in
      let inside : k < length (drop p text) = simp length-drop (omega arith) in
      ap (λ (x : ℕ). last_digits 16 k x ++ (hex_digit_ascii ((number_at 16 text p k * 16 + digit_value b) % 16) ∷ [])) s.0
      ∙ ap (λ (x : ℕ). last_digits 16 k (number_at 16 text p k) ++ (hex_digit_ascii x ∷ [])) s.1
      ∙ ap (λ (x : ℕ). last_digits 16 k (number_at 16 text p k) ++ (x ∷ [])) (glyph_value b small ∙ sym (get_or-drop p text k 0))
      ∙ ap (λ (l : List ℕ). l ++ (get_or (drop p text) k 0 ∷ [])) (spelled_again k (omega arith) (λ j lt. g j (omega arith)))
      ∙ sym (take-suc (drop p text) k 0 inside)

  pub spelled_small : (k : ℕ) → ((j : ℕ) → j < k → is_digit 16 (byte_at text (p + j)) ≡ true) → number_at 16 text p k < 16 ^ k
  unfolding number_at
  spelled_small zero g = lit< tt
  spelled_small (suc k) g =
      let h : number_at 16 text p k < 16 ^ k = spelled_small k (λ j lt. g j (omega arith)) in
      let small : digit_value (byte_at text (p + k)) < 16 = ltb-true (digit_value (byte_at text (p + k))) 16 (g k (omega arith)) in
      let e : 16 ^ suc k ≡ 16 ^ k * 16 = pow-suc 16 k in
      omega arith
