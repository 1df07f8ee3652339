-- What was read and not refused, and what stands in front of it: a word, or digits and a byte after them. Assumes nothing.
use Prim.Native.Nat.{ℕ, suc, ◌<◌}
use mathlib.Core.Path.{◌≡◌, refl, sym, ap, ◌∙◌}
use mathlib.Core.Bool.{Bool, true, false, cond, ◌&&◌, true≢false}
use mathlib.Core.List.{List, [], ◌∷◌, ◌++◌}
use native.Mathlib.Omega.{arith}
use lib.Dec.{eqb, ltb}
use lib.ListN.{length, drop}
use borrow.Author.Tests.{eqb-true, ltb-true}
use Rattle.algebra.specs.Outcome.{Outcome, value, refused}
use Rattle.texts.specs.Digits.{byte_at, every, is_digit, digit_value, starts_with}
use Rattle.texts.specs.Whole.{past, front}
use Rattle.texts.proofs.Every.{both_true, every_at}
use Rattle.texts.proofs.WholeNumbers.{front_past, front_digits}
use Rattle.market.specs.Format.{Digits, header}

-- ---- what was not refused: the tests before it went the one way
module _ {R : Type 0} (number : ℕ) (r : R) where
  pub wrong : ◌≡◌ {A = Outcome R} (refused number) (value r) → ⊥
  wrong e = let z : ◌≡◌ {A = ℕ} 0 1 = cc in omega arith

  pub taken : (t : Bool) (x : Outcome R) → cond t x (refused number) ≡ value r → (t ≡ true) × (x ≡ value r)
  taken true x e = (refl, e)
  taken false x e = absurd (wrong e)

  pub spared : (t : Bool) (x : Outcome R) → cond t (refused number) x ≡ value r → (t ≡ false) × (x ≡ value r)
  spared true x e = absurd (wrong e)
  spared false x e = (refl, e)

-- ---- bytes in front of a text: none of them is 0, so that they stand inside it
pub first_split : (l : List ℕ) (b : ℕ) → byte_at l 0 ≡ b → 0 < b → l ≡ b ∷ drop 1 l
first_split [] b e h = absurd (omega arith)
first_split (c ∷ l) b e h = ap (λ (x : ℕ). x ∷ l) e

word_split : (word text : List ℕ) → ((i : ℕ) → i < length word → byte_at text i ≡ byte_at word i) → ((i : ℕ) → i < length word → 0 < byte_at word i)
    → text ≡ word ++ drop (length word) text
word_split [] text same some = refl
word_split (b ∷ word) [] same some = absurd (let e = same 0 (omega arith) in let h = some 0 (omega arith) in omega arith)
word_split (b ∷ word) (c ∷ text) same some =
    (λ i. same 0 (omega arith) i ∷ word_split word text (λ j h. same (suc j) (omega arith)) (λ j h. some (suc j) (omega arith)) i)

header_some : (s : Bool) → every (λ i. ltb 0 (byte_at (header s) i)) (length (header s)) ≡ true
unfolding every
header_some true = refl
header_some false = refl

pub header_split : (s : Bool) (text : List ℕ) → starts_with (header s) text ≡ true → text ≡ header s ++ drop (length (header s)) text
unfolding starts_with
header_split s text e =
    word_split (header s) text
    (λ i h. eqb-true (byte_at text i) (byte_at (header s) i) (every_at (λ j. eqb (byte_at text j) (byte_at (header s) j)) (length (header s)) i e h))
    (λ i h. ltb-true 0 (byte_at (header s) i) (every_at (λ j. ltb 0 (byte_at (header s) j)) (length (header s)) i (header_some s) h))

-- ---- the digits in front of a text
front_some : (l : List ℕ) → is_digit 10 (byte_at l 0) ≡ true → 0 < length (front l)
unfolding front digit_value
front_some [] e = absurd (true≢false (sym e))
front_some (b ∷ l) e = rw e (omega arith)

-- one digit or more, and then the byte b
module _ (l : List ℕ) (b : ℕ) (some : 0 < b) (e : (is_digit 10 (byte_at l 0) && eqb (byte_at (past l) 0) b) ≡ true) where
  abbrev both : (is_digit 10 (byte_at l 0) ≡ true) × (eqb (byte_at (past l) 0) b ≡ true)
  both = both_true (is_digit 10 (byte_at l 0)) (eqb (byte_at (past l) 0) b) e

  pub number_digits_lem : Digits (front l)
  number_digits_lem = record { some = front_some l both.0; all = front_digits l }

  pub number_split : l ≡ front l ++ (b ∷ drop 1 (past l))
  number_split = front_past l ∙ ap (λ (r : List ℕ). front l ++ r) (first_split (past l) b (eqb-true (byte_at (past l) 0) b both.1) some)
