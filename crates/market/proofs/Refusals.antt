-- By which numbers a text is refused, by the cases of each definition: none of them is 0, so that the number 0 says that a call is done. Assumes nothing.
use Prim.Native.Nat.{ℕ, zero, suc, ◌<◌}
use mathlib.Core.Path.{◌≡◌, refl, subst}
use mathlib.Core.Bool.{Bool, true, false, cond, ◌&&◌}
use mathlib.Core.List.{List}
use mathlib.Core.Logic.{◌⊎◌, inl, inr}
use native.Mathlib.Omega.{arith}
use lib.Dec.{ltb, eqb}
use lib.ListN.{length, drop}
use lib.Ieee.{Float}
use Rattle.refusals.specs.Largest as largest
use Rattle.refusals.specs.Number as refusal
use Rattle.algebra.specs.Outcome.{Outcome, value, refused, number_of, map_outcome}
use Rattle.texts.specs.Bytes as byte
use Rattle.texts.specs.Digits.{byte_at, is_digit, starts_with}
use Rattle.texts.specs.Whole.{worth, past}
use Rattle.market.specs.Format.{header, signed}
use Rattle.market.specs.Head.{Opened, opened, squared, columns_line, size_line, after_header, head_of}
use Rattle.market.specs.Entries.{Line, line, is_over, magnitude_line, entry_of, entry_then, numbers_of}

-- done, or refused by a number of which P holds
abbrev pub Refusing : {A : Type 0} → (ℕ → Type 0) → Outcome A → Type 0
Refusing P (value x) = Unit {0}
Refusing P (refused number) = P number

-- done, or refused by a number that is not 0
abbrev pub Numbered : {A : Type 0} → Outcome A → Type 0
Numbered o = Refusing (λ number. 0 < number) o

-- then 0 is the number of what is done alone
pub done : {A : Type 0} (o : Outcome A) → Numbered o → number_of o ≡ 0 → (x : A) × (o ≡ value x)
done (value x) h e = (x, refl)
done (refused number) h e = absurd (omega arith)

module _ (P : ℕ → Type 0) where
  by_test : {A : Type 0} (t : Bool) (a b : Outcome A) → Refusing P a → Refusing P b → Refusing P (cond t a b)
  by_test true a b p q = p
  by_test false a b p q = q

  mapped : {A B : Type 0} (f : A → B) (o : Outcome A) → Refusing P o → Refusing P (map_outcome f o)
  mapped f (value x) h = tt
  mapped f (refused number) h = h

  module _ (unreadable : P refusal.unreadable_market) where
    -- what stands before the entries
    module _ (different : P refusal.not_square) (large : P refusal.too_large) where
      squared_refusing : (s : Bool) (rows columns : ℕ) (rest : List ℕ) → Refusing P (squared s rows columns rest)
      unfolding squared
      squared_refusing s rows columns rest =
          by_test (eqb rows columns) (cond (ltb largest.n rows) (refused refusal.too_large) (value (opened rows s rest))) (refused refusal.not_square)
          (by_test (ltb largest.n rows) (refused refusal.too_large) (value (opened rows s rest)) large tt) different

      columns_refusing : (s : Bool) (rows : ℕ) (l : List ℕ) → Refusing P (columns_line s rows l)
      unfolding columns_line
      columns_refusing s rows l =
          by_test (is_digit 10 (byte_at l 0) && eqb (byte_at (past l) 0) byte.newline) (squared s rows (worth 0 l) (drop 1 (past l))) (refused refusal.unreadable_market)
          (squared_refusing s rows (worth 0 l) (drop 1 (past l))) unreadable

      size_refusing : (s : Bool) (l : List ℕ) → Refusing P (size_line s l)
      unfolding size_line
      size_refusing s l =
          by_test (is_digit 10 (byte_at l 0) && eqb (byte_at (past l) 0) byte.space) (columns_line s (worth 0 l) (drop 1 (past l))) (refused refusal.unreadable_market)
          (columns_refusing s (worth 0 l) (drop 1 (past l))) unreadable

      pub head_refusing : (text : List ℕ) → Refusing P (head_of text)
      unfolding head_of
      head_refusing text =
          let unread : Outcome Opened = refused refusal.unreadable_market in
          let other = cond (starts_with (header true) text) (after_header true text) unread in
          by_test (ltb largest.market (length text)) unread (cond (starts_with (header false) text) (after_header false text) other) unreadable
          (by_test (starts_with (header false) text) (after_header false text) other (size_refusing false _) (by_test (starts_with (header true) text) (after_header true text) unread (size_refusing true _) unreadable))

    -- the entries
    module _ (wrong : P refusal.wrong_entries) where
      magnitude_refusing : (minus : Bool) (l : List ℕ) → Refusing P (magnitude_line minus l)
      unfolding magnitude_line
      magnitude_refusing minus l =
          let unread : Outcome Line = refused refusal.unreadable_market in
          let ended : Outcome Line = refused refusal.wrong_entries in
          let read : Outcome Line = value (line (signed minus (worth 0 l)) (drop 1 (past l))) in
          let good = is_digit 10 (byte_at l 0) && eqb (byte_at (past l) 0) byte.newline in
          by_test (ltb largest.whole (worth 0 l)) unread (cond (is_over (past l)) ended (cond good read unread)) unreadable
          (by_test (is_over (past l)) ended (cond good read unread) wrong (by_test good read unread tt unreadable))

      entry_refusing : (l : List ℕ) → Refusing P (entry_of l)
      unfolding entry_of
      entry_refusing l = by_test (eqb (byte_at l 0) byte.minus) (magnitude_line true (drop 1 l)) (magnitude_line false l) (magnitude_refusing true (drop 1 l)) (magnitude_refusing false l)

      then_refusing : (f : List ℕ → Outcome (List Float)) → ((l : List ℕ) → Refusing P (f l)) → (o : Outcome Line) → Refusing P o → Refusing P (entry_then f o)
      then_refusing f all (value l) h = mapped _ (f l.rest) (all l.rest)
      then_refusing f all (refused number) h = h

      pub numbers_refusing : (k : ℕ) (l : List ℕ) → Refusing P (numbers_of k l)
      unfolding numbers_of
      numbers_refusing zero l = by_test (is_over l) (value _) (refused refusal.wrong_entries) tt wrong
      numbers_refusing (suc k) l = then_refusing (numbers_of k) (numbers_refusing k) (entry_of l) (entry_refusing l)

pub head_numbered : (text : List ℕ) → Numbered (head_of text)
head_numbered text = head_refusing (λ number. 0 < number) (omega arith) (omega arith) (omega arith) text

pub numbers_numbered : (k : ℕ) (l : List ℕ) → Numbered (numbers_of k l)
numbers_numbered k l = numbers_refusing (λ number. 0 < number) (omega arith) (omega arith) k l

-- what stands before the entries is refused by 10, 11 or 1, the entries by 10 or 12
pub head_numbers : (text : List ℕ) (number : ℕ) → head_of text ≡ refused number → (number ≡ refusal.unreadable_market) ⊎ ((number ≡ refusal.not_square) ⊎ (number ≡ refusal.too_large))
head_numbers text number e = subst (Refusing (λ m. (m ≡ refusal.unreadable_market) ⊎ ((m ≡ refusal.not_square) ⊎ (m ≡ refusal.too_large)))) e (head_refusing _ (inl refl) (inr (inl refl)) (inr (inr refl)) text)

pub entries_numbers : (k : ℕ) (l : List ℕ) (number : ℕ) → numbers_of k l ≡ refused number → (number ≡ refusal.unreadable_market) ⊎ (number ≡ refusal.wrong_entries)
entries_numbers k l number e = subst (Refusing (λ m. (m ≡ refusal.unreadable_market) ⊎ (m ≡ refusal.wrong_entries))) e (numbers_refusing _ (inl refl) (inr refl) k l)
