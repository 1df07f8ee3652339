-- A number's digits put in front of each other, the last first, are its text. Assumes nothing.
use Prim.Native.Nat.{ℕ, zero, suc, ◌+◌, ◌-◌, ◌/◌, ◌%◌, ◌^◌, ◌<◌, ◌≤◌}
use mathlib.Core.Path.{◌≡◌, refl, sym, ap, subst, ◌∙◌}
use mathlib.Core.List.{List, [], ◌∷◌, ◌++◌, append-nil}
use native.Mathlib.Nat.{pow-suc, div-lt_iff_lt-mul, lt_of_lt_of_le}
use native.Mathlib.Numerals.{add-one}
use native.Mathlib.Omega.{arith}
use lib.Dec.{lit<, lit≤}
use lib.ListN.{length, length-set, set, take, drop, drop_of_length-le}
use lib.Seq.{append_snoc, set_split, drop_at, length-take-le}
use borrow.Author.Tests.{lt-ltb, le-ltb}
use Rattle.io.specs.Digits.{hex_digit_ascii, last_digits}
use Rattle.texts.specs.Bytes.{digit_zero}
use Rattle.texts.specs.Numbers.{places, decimal_text, Spelled}
use Rattle.texts.proofs.DigitsBack.{low_glyph}

-- the digits of a number below 10, and those of a larger one by its last
one_place : (d m : ℕ) → m < 10 → places d m ≡ 1
unfolding places
one_place zero m h = refl
one_place (suc d) m h = rw (lt-ltb m 10 h)

one_digit : (d m : ℕ) → m < 10 → last_digits 10 (places d m) m ≡ (digit_zero + m) ∷ []
one_digit d m h =
    ap (λ (k : ℕ). last_digits 10 k m) (one_place d m h)
    ∙ ap (λ (x : ℕ). hex_digit_ascii x ∷ []) (let e : m % 10 ≡ m = omega arith in e)
    ∙ ap (λ (b : ℕ). b ∷ []) (low_glyph m h)

last_digit : (d m : ℕ) → 9 < m → last_digits 10 (places (suc d) m) m ≡ last_digits 10 (places d (m / 10)) (m / 10) ++ ((digit_zero + m % 10) ∷ [])
unfolding places
last_digit d m h =
    rw (le-ltb m 10 h)
    (ap (λ (b : ℕ). last_digits 10 (places d (m / 10)) (m / 10) ++ (b ∷ [])) (low_glyph (m % 10) (omega arith)))

-- without its last digit a number has one fewer
one_fewer : (k m : ℕ) → m < 10 ^ suc k → m / 10 < 10 ^ k
one_fewer k m h = (div-lt_iff_lt-mul (lit< tt)).1 (subst (λ (x : ℕ). m < x) (pow-suc 10 k) h)

-- what stands from i on after a store at i
drop_stored : (l : List ℕ) (i b : ℕ) → i < length l → drop i (set l i b) ≡ b ∷ drop (i + 1) l
drop_stored l i b h =
    ap (drop i) (set_split l i b h)
    ∙ drop_at (take i l) (b ∷ drop (suc i) l) i (length-take-le i l (omega arith))
    ∙ ap (λ (k : ℕ). b ∷ drop k l) (sym (add-one i))

-- what the loop keeps: the digits from start + 1 on are put, those of rest are still to be
pub record Spelling (n : ℕ) (l : List ℕ) (start rest : ℕ) : Type 0 where
  pub size : length l ≡ 20
  pub within : start < 20
  pub small : rest < 10 ^ (start + 1)
  pub text : last_digits 10 (places start rest) rest ++ drop (start + 1) l ≡ decimal_text n

pub spelling_none : (n : ℕ) (l : List ℕ) → n < 2 ^ 64 → length l ≡ 20 → Spelling n l 19 n
unfolding decimal_text
spelling_none n l h e = record {
  size = e;
  within = lit< tt;
  small = lt_of_lt_of_le h (lit≤ tt);
  text = ap (λ (t : List ℕ). last_digits 10 (places 19 n) n ++ t) (drop_of_length-le l {i = 20} (omega arith)) ∙ append-nil (last_digits 10 (places 19 n) n);
}

module _ (n : ℕ) (l : List ℕ) where
  -- a number of more than one digit has room for the next
  pub spelling_room : (start rest : ℕ) → Spelling n l start rest → 9 < rest → 1 ≤ start
  spelling_room zero rest s h = let g : rest < 10 = s.small in absurd (omega arith)
  spelling_room (suc d) rest s h = omega arith

  more : (d rest : ℕ) → Spelling n l (suc d) rest → 9 < rest → Spelling n (set l (suc d) (digit_zero + rest % 10)) d (rest / 10)
  more d rest s h =
      let b = digit_zero + rest % 10 in
      let front = last_digits 10 (places d (rest / 10)) (rest / 10) in
      record {
        size = length-set l (suc d) b ∙ s.size;
        within = omega arith;
        small = one_fewer (d + 1) rest (subst (λ (k : ℕ). rest < 10 ^ k) (let e : suc d + 1 ≡ suc (d + 1) = omega arith in e) s.small);
        text =
            ap (λ (k : ℕ). front ++ drop k (set l (suc d) b)) (add-one d)
            ∙ ap (λ (t : List ℕ). front ++ t) (drop_stored l (suc d) b (omega arith))
            ∙ sym (append_snoc front b (drop (suc d + 1) l))
            ∙ ap (λ (t : List ℕ). t ++ drop (suc d + 1) l) (sym (last_digit d rest h))
            ∙ s.text;
      }

  pub spelling_more : (start rest : ℕ) → Spelling n l start rest → 9 < rest → Spelling n (set l start (digit_zero + rest % 10)) (start - 1) (rest / 10)
  spelling_more zero rest s h = let g : rest < 10 = s.small in absurd (omega arith)
  spelling_more (suc d) rest s h = subst (λ (k : ℕ). Spelling n (set l (suc d) (digit_zero + rest % 10)) k (rest / 10)) (let e : d ≡ suc d - 1 = omega arith in e) (more d rest s h)

  -- the first digit ends them
  pub spelling_ends : (start rest : ℕ) → Spelling n l start rest → rest ≤ 9 → Spelled n (set l start (digit_zero + rest)) start
  spelling_ends start rest s h = record {
    size = length-set l start (digit_zero + rest) ∙ s.size;
    inside = s.within;
    text =
        drop_stored l start (digit_zero + rest) (omega arith)
        ∙ ap (λ (t : List ℕ). t ++ drop (start + 1) l) (sym (one_digit start rest (omega arith)))
        ∙ s.text;
  }
