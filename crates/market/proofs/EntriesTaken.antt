-- Entries that the reader takes are lines of the format, as many as there are to be. Assumes nothing.
use Prim.Native.Nat.{ℕ, zero, suc, ◌≤◌}
use mathlib.Core.Path.{◌≡◌, refl, sym, ap, ◌∙◌, subst}
use mathlib.Core.Bool.{Bool, true, false, cond, ◌&&◌}
use mathlib.Core.List.{List, [], ◌∷◌, ◌++◌}
use native.Mathlib.Omega.{arith}
use lib.Dec.{eqb, ltb}
use lib.ListN.{length, drop}
use lib.Ieee.{Float}
use borrow.Author.Tests.{eqb-true, ltb-false}
use Rattle.refusals.specs.Largest as largest
use Rattle.refusals.specs.Number as refusal
use Rattle.algebra.specs.Outcome.{Outcome, value, refused, map_outcome}
use Rattle.texts.specs.Bytes as byte
use Rattle.texts.specs.Digits.{byte_at, is_digit}
use Rattle.texts.specs.Whole.{worth, past, front}
use Rattle.texts.proofs.WholeNumbers.{front_worth}
use Rattle.market.specs.Format.{Digits, Entries, sign, signed}
use Rattle.market.specs.Format.Entries.{none, entry}
use Rattle.market.specs.Entries.{Line, line, is_over, magnitude_line, entry_of, entry_then, numbers_of}
use Rattle.market.proofs.Fronts.{wrong, taken, spared, first_split, number_digits_lem, number_split}
use Rattle.market.proofs.ReadsFormat.{untidy}

-- the entry x, and the text after it, are what the text l begins with
pub record Entered (l : List ℕ) (x : Line) : Type 0 where
  pub minus : Bool
  pub digits : List ℕ
  pub lines : l ≡ sign minus ++ (digits ++ (byte.newline ∷ x.rest))
  pub all : Digits digits
  pub small : worth 0 digits ≤ largest.whole
  pub number : signed minus (worth 0 digits) ≡ x.number

magnitude_split : (minus : Bool) (l : List ℕ) (x : Line) → magnitude_line minus l ≡ value x → Entered (sign minus ++ l) x
unfolding magnitude_line
magnitude_split minus l x e =
    let good = is_digit 10 (byte_at l 0) && eqb (byte_at (past l) 0) byte.newline in
    let read : Line = line (signed minus (worth 0 l)) (drop 1 (past l)) in
    let a = spared refusal.unreadable_market x (ltb largest.whole (worth 0 l)) (cond (is_over (past l)) (refused refusal.wrong_entries) (cond good (value read) (refused refusal.unreadable_market))) e in
    let b = spared refusal.wrong_entries x (is_over (past l)) (cond good (value read) (refused refusal.unreadable_market)) a.1 in
    let c = taken refusal.unreadable_market x good (value read) b.1 in
    let q : value read ≡ value x = c.1 in
    let same : read ≡ x = cc in
    record {
      minus = minus;
      digits = front l;
      lines = ap (λ (t : List ℕ). sign minus ++ t) (number_split l byte.newline (omega arith) c.0) ∙ ap (λ (p : Line). sign minus ++ (front l ++ (byte.newline ∷ p.rest))) same;
      all = number_digits_lem l byte.newline (omega arith) c.0;
      small = subst (λ (v : ℕ). v ≤ largest.whole) (sym (front_worth l 0)) (ltb-false largest.whole (worth 0 l) a.0);
      number = ap (signed minus) (front_worth l 0) ∙ ap (λ (p : Line). p.number) same;
    }

pub entry_split : (l : List ℕ) (x : Line) → entry_of l ≡ value x → Entered l x
unfolding entry_of
entry_split l x e = by (eqb (byte_at l 0) byte.minus) refl e
  where
    by : (t : Bool) → eqb (byte_at l 0) byte.minus ≡ t → cond t (magnitude_line true (drop 1 l)) (magnitude_line false l) ≡ value x → Entered l x
    by true q h = subst (λ (m : List ℕ). Entered m x) (sym (first_split l byte.minus (eqb-true (byte_at l 0) byte.minus q) (omega arith))) (magnitude_split true (drop 1 l) x h)
    by false q h = magnitude_split false l x h

-- k numbers are those of the text's entries
pub record Listed (k : ℕ) (l : List ℕ) (numbers : List Float) : Type 0 where
  pub listed : Entries false l numbers
  pub count : length numbers ≡ k

listed_none : (l : List ℕ) (numbers : List Float) → numbers_of 0 l ≡ value numbers → Listed 0 l numbers
unfolding numbers_of
listed_none [] numbers e = subst (Listed 0 []) (let z : [] ≡ numbers = cc in z) (record { listed = none; count = refl })
listed_none (b ∷ l) numbers e = absurd (let z = eqb-true (length (b ∷ l)) 0 (taken refusal.wrong_entries numbers (is_over (b ∷ l)) (value []) e).0 in omega arith)

pub listed_more : (k : ℕ) (l : List ℕ) (x : Line) (others : List Float) → Entered l x → Listed k x.rest others → Listed (suc k) l (x.number ∷ others)
listed_more k l x others entered more = record {
  listed =
      subst (λ (t : List ℕ). Entries false t (x.number ∷ others)) (sym entered.lines)
      (subst (λ (y : Float). Entries false (sign entered.minus ++ (entered.digits ++ (byte.newline ∷ x.rest))) (y ∷ others)) entered.number
      (entry entered.minus entered.digits x.rest others entered.all entered.small untidy untidy more.listed));
  count = ap suc more.count;
}

pub numbers_split : (k : ℕ) (l : List ℕ) (numbers : List Float) → numbers_of k l ≡ value numbers → Listed k l numbers
unfolding numbers_of
numbers_split zero l numbers e = listed_none l numbers e
numbers_split (suc k) l numbers e = by (entry_of l) refl e (λ r others q. numbers_split k r others q)
  where
    more_by : (x : Line) (o : Outcome (List Float)) → entry_of l ≡ value x → numbers_of k x.rest ≡ o → map_outcome (λ others. x.number ∷ others) o ≡ value numbers → ((others : List Float) → numbers_of k x.rest ≡ value others → Listed k x.rest others) → Listed (suc k) l numbers
    more_by x (value others) p q h more = subst (Listed (suc k) l) (let z : x.number ∷ others ≡ numbers = cc in z) (listed_more k l x others (entry_split l x p) (more others q))
    more_by x (refused number) p q h more = absurd (wrong number numbers h)

    by : (o : Outcome Line) → entry_of l ≡ o → entry_then (numbers_of k) o ≡ value numbers → ((r : List ℕ) (others : List Float) → numbers_of k r ≡ value others → Listed k r others) → Listed (suc k) l numbers
    by (value x) p h more = more_by x (numbers_of k x.rest) p refl h (more x.rest)
    by (refused number) p h more = absurd (wrong number numbers h)
