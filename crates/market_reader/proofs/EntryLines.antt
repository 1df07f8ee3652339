-- One entry way by way, and all of them: those read so far stand before what is still to be read. Assumes nothing.
use Prim.Native.Nat.{ℕ, suc, ◌+◌, ◌-◌, ◌<◌, ◌≤◌}
use mathlib.Core.Path.{◌≡◌, refl, sym, ap, ◌∙◌}
use mathlib.Core.Bool.{Bool, true, false, cond, ◌&&◌}
use mathlib.Core.List.{List, [], ◌∷◌, ◌++◌, append-nil}
use native.Mathlib.Omega.{arith}
use lib.Dec.{ltb, eqb}
use lib.ListN.{length, set, take, drop, length-set}
use lib.Seq.{append_snoc, take-suc-set, take_all}
use lib.Pointwise.{pointwise}
use lib.Ieee.{Float}
use borrow.Author.Tests.{lt-ltb, le-ltb}
use Rattle.refusals.specs.Number as refusal
use Rattle.refusals.specs.Largest as largest
use Rattle.algebra.specs.Outcome.{Outcome, value, refused, map_outcome}
use Rattle.texts.specs.declared.whole.Whole.{Whole}
use Rattle.texts.specs.Bytes as byte
use Rattle.texts.specs.Digits.{byte_at}
use Rattle.texts.specs.Whole.{worth, past, Found}
use Rattle.market.specs.Format.{signed}
use Rattle.market.specs.Entries.{Line, line, is_over, magnitude_line, entry_of, entry_then, numbers_of}
use Rattle.market_reader.specs.declared.Entry.{Entry}
use Rattle.market_reader.specs.Told.{line_in}
use Rattle.market_reader.proofs.EndedNumbers.{ends}

-- ---- the line of an entry
module _ (text : List ℕ) (minus : Bool) (w : Whole) (found : Found largest.whole text w) where
  pub line_large : largest.whole < w.value → refused refusal.unreadable_market ≡ magnitude_line minus text
  unfolding magnitude_line
  line_large h = rw (lt-ltb largest.whole (worth 0 text) (found.value.above h))

  module _ (small : w.value ≤ largest.whole) (t : Bool) (told : t ≡ is_over w.rest.now) where
    few : ltb largest.whole (worth 0 text) ≡ false
    few = let e : w.value ≡ worth 0 text = found.value.same small in le-ltb largest.whole (worth 0 text) (omega arith)

    over : is_over (past text) ≡ t
    over = sym (told ∙ ap is_over found.rest)

    pub line_cut : t ≡ true → refused refusal.wrong_entries ≡ magnitude_line minus text
    unfolding magnitude_line
    line_cut e = rw (few, over ∙ e)

    module _ (more : t ≡ false) where
      pub line_wrong : ends text byte.newline ≡ false → refused refusal.unreadable_market ≡ magnitude_line minus text
      unfolding magnitude_line
      line_wrong e = rw (few, over ∙ more, e)

      pub line_good : (x : Float) (rest : List ℕ) → ends text byte.newline ≡ true → rest ≡ drop 1 (past text) → x ≡ signed minus w.value → value (line x rest) ≡ magnitude_line minus text
      unfolding magnitude_line
      line_good x rest e d f = rw (few, over ∙ more, e, ← d, ← found.value.same small, ← f)

-- ---- the minus of an entry
first_found : (text : List ℕ) → pointwise eqb (take 1 text) (byte.minus ∷ []) ≡ eqb (byte_at text 0) byte.minus
first_found [] = refl
first_found (b ∷ l) = by (eqb b byte.minus)
  where
    by : (t : Bool) → (t && true) ≡ t
    by true = refl
    by false = refl

module _ (text : List ℕ) (o : Outcome Line) where
  pub entry_minus : (rest : List ℕ) → o ≡ magnitude_line true rest → pointwise eqb (take 1 text) (byte.minus ∷ []) ≡ true → rest ≡ drop 1 text → o ≡ entry_of text
  unfolding entry_of
  entry_minus rest told e d = told ∙ ap (magnitude_line true) d ∙ rw (sym (first_found text) ∙ e)

  pub entry_plain : o ≡ magnitude_line false text → pointwise eqb (take 1 text) (byte.minus ∷ []) ≡ false → o ≡ entry_of text
  unfolding entry_of
  entry_plain told n = told ∙ rw (sym (first_found text) ∙ n)

-- ---- all of them
abbrev ahead : List Float → Outcome (List Float) → Outcome (List Float)
ahead a o = map_outcome (λ (l : List Float). a ++ l) o

ahead_before : (a : List Float) (x : Float) (o : Outcome (List Float)) → ahead a (map_outcome (λ (l : List Float). x ∷ l) o) ≡ ahead (a ++ (x ∷ [])) o
ahead_before a x (value l) = ap value (sym (append_snoc a x l))
ahead_before a x (refused number) = refl

-- what the loop keeps: i of m entries stand in the lent numbers, and the others are read from what is left
pub record Reading (text : List ℕ) (m : ℕ) (numbers : List Float) (rest : List ℕ) (i : ℕ) : Type 0 where
  pub within : i ≤ m
  pub long : length numbers ≡ m
  pub left : numbers_of m text ≡ ahead (take i numbers) (numbers_of (m - i) rest)

module _ (text : List ℕ) where
  module _ (m : ℕ) (numbers : List Float) (rest : List ℕ) (i : ℕ) (here : Reading text m numbers rest i) where
    one_line : i < m → numbers_of (m - i) rest ≡ entry_then (numbers_of (m - (i + 1))) (entry_of rest)
    unfolding numbers_of
    one_line h = ap (λ (k : ℕ). numbers_of k rest) (let z : m - i ≡ suc (m - (i + 1)) = omega arith in z)

    pub reading_more : (e : Entry) → value (line_in e) ≡ entry_of rest → i < length numbers → Reading text m (set numbers i e.number) e.rest.now (i + 1)
    reading_more e said h =
        let k = here.long in record {
          within = omega arith;
          long = simp length-set here.long;
          left =
              here.left
              ∙ ap (ahead (take i numbers)) (one_line (omega arith) ∙ ap (entry_then (numbers_of (m - (i + 1)))) (sym said))
              ∙ ahead_before (take i numbers) e.number (numbers_of (m - (i + 1)) e.rest.now)
              ∙ ap (λ (a : List Float). ahead a (numbers_of (m - (i + 1)) e.rest.now)) (sym (take-suc-set numbers i e.number h) ∙ ap (λ (k : ℕ). take k (set numbers i e.number)) (let z : suc i ≡ i + 1 = omega arith in z));
        }

    pub reading_faults : (number : ℕ) → refused number ≡ entry_of rest → i < length numbers → refused number ≡ numbers_of m text
    reading_faults number said h =
        let size = here.long in
        sym (here.left ∙ ap (ahead (take i numbers)) (one_line (omega arith) ∙ ap (entry_then (numbers_of (m - (i + 1)))) (sym said)))

    last_line : (t : Bool) → is_over rest ≡ t → length numbers ≤ i → numbers_of m text ≡ ahead (take i numbers) (cond t (value []) (refused refusal.wrong_entries))
    unfolding numbers_of
    last_line t e h =
        let size = here.long in
        here.left
        ∙ ap (λ (k : ℕ). ahead (take i numbers) (numbers_of k rest)) (let z : m - i ≡ 0 = omega arith in z)
        ∙ ap (λ (x : Bool). ahead (take i numbers) (cond x (value []) (refused refusal.wrong_entries))) e

    -- after the last of them the text is over, or not
    module _ (t : Bool) (told : t ≡ is_over rest) (last : length numbers ≤ i) where
      pub reading_left : t ≡ false → refused refusal.wrong_entries ≡ numbers_of m text
      reading_left e = sym (last_line false (sym told ∙ e) last)

      pub reading_all : t ≡ true → value numbers ≡ numbers_of m text
      reading_all e = sym (last_line true (sym told ∙ e) last ∙ ap value (append-nil (take i numbers) ∙ take_all i numbers last))
