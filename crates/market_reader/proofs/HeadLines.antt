-- The header, comment lines and the size line, way by way: each is a text of the definition with its tests decided. Assumes nothing.
use Prim.Native.Nat.{ℕ, suc, ◌+◌, ◌-◌, ◌<◌, ◌≤◌}
use mathlib.Core.Path.{◌≡◌, refl, sym, ap, ◌∙◌, subst}
use mathlib.Core.Bool.{Bool, true, false, cond, not, ◌||◌, true≢false}
use mathlib.Core.List.{List, ◌∷◌, ◌++◌}
use native.Mathlib.Omega.{arith}
use lib.Dec.{leb, eqb}
use lib.ListN.{length, take, drop, length-drop, drop_of_length-le}
use lib.Seq.{drop-cons, take_all, take-append_seam}
use lib.Pointwise.{pointwise}
use borrow.Author.Tests.{lt-ltb, le-ltb, leb-true, leb-false, eq-eqb, ne_eqb}
use Rattle.std.specs.Prelude.{Decides}
use Rattle.std.proofs.lemmas.Bool.Decides.{Decides-eqb}
use Rattle.std.proofs.lemmas.List.{take-append-drop}
use Rattle.std.proofs.lemmas.Slice.Eq.{slice_eq-Decides}
use Rattle.refusals.specs.Number as refusal
use Rattle.refusals.specs.Largest as largest
use Rattle.algebra.specs.Outcome.{Outcome, value, refused}
use Rattle.texts.specs.declared.whole.Whole.{Whole}
use Rattle.texts.specs.Bytes as byte
use Rattle.texts.specs.Digits.{byte_at, starts_with}
use Rattle.texts.specs.Whole.{worth, past, Capped, Found, AllDigits}
use Rattle.texts.proofs.WholeNumbers.{front_worth, front_digits}
use Rattle.market.specs.Format.{header}
use Rattle.market.proofs.Lines.{starts_own}
use Rattle.market.proofs.Fronts.{header_split}
use Rattle.market_reader.proofs.EndedNumbers.{ends}
use Rattle.market.specs.Head.{Opened, opened, comments, squared, columns_line, size_line, head_of}

-- what a slice from i on holds
pub from_on : {A : Type 0} (l : List A) (i : ℕ) → take (length l - i) (drop i l) ≡ drop i l
from_on l i = take_all (length l - i) (drop i l) (omega (arith, length-drop i l))

-- ---- comment lines: from i on the text is still to be passed as it was from its start on
module _ (text : List ℕ) (inside : Bool) (i : ℕ) (here : comments false text ≡ comments inside (drop i text)) where
  module _ (h : i < length text) where
    by_first : (t : Bool) → (inside || eqb (byte_at text i) byte.percent) ≡ t → comments inside (drop i text) ≡ cond t (comments (not (eqb (byte_at text i) byte.newline)) (drop (suc i) text)) (drop i text)
    unfolding comments
    by_first t e =
        ap (comments inside) (drop-cons text i 0 h)
        ∙ ap (λ (x : Bool). cond x (comments (not (eqb (byte_at text i) byte.newline)) (drop (suc i) text)) (byte_at text i ∷ drop (suc i) text)) e
        ∙ ap (cond t (comments (not (eqb (byte_at text i) byte.newline)) (drop (suc i) text))) (sym (drop-cons text i 0 h))

    passed : (inside || eqb (byte_at text i) byte.percent) ≡ true → comments false text ≡ comments (not (eqb (byte_at text i) byte.newline)) (drop (i + 1) text)
    passed e = here ∙ by_first true e ∙ ap (λ (k : ℕ). comments (not (eqb (byte_at text i) byte.newline)) (drop k text)) (let z : suc i ≡ i + 1 = omega arith in z)

    pub passing_inside : inside ≡ true → comments false text ≡ comments (not (eqb (byte_at text i) byte.newline)) (drop (i + 1) text)
    passing_inside e = passed (ap (λ (t : Bool). t || eqb (byte_at text i) byte.percent) e)

    pub passing_begins : inside ≡ false → byte_at text i ≡ byte.percent → comments false text ≡ comments (not (eqb (byte_at text i) byte.newline)) (drop (i + 1) text)
    passing_begins e g = passed (ap (λ (t : Bool). t || eqb (byte_at text i) byte.percent) e ∙ eq-eqb (byte_at text i) byte.percent g)

    pub passing_stops : inside ≡ false → (byte_at text i ≡ byte.percent → ⊥) → take (length text - i) (drop i text) ≡ comments false text
    passing_stops e g = from_on text i ∙ sym (here ∙ by_first false (ap (λ (t : Bool). t || eqb (byte_at text i) byte.percent) e ∙ ne_eqb (byte_at text i) byte.percent g))

  pub passing_ends : length text ≤ i → take (length text - length text) (drop (length text) text) ≡ comments false text
  unfolding comments
  passing_ends h = from_on text (length text) ∙ drop_of_length-le text (let z : length text ≤ length text = omega arith in z) ∙ sym (here ∙ ap (comments inside) (drop_of_length-le text h))

-- ---- the size line: a number of rows, and a number of columns in what stands after it
-- what stands for a number is above the largest n where the number is, and is it where it is not
capped_large : (v w : ℕ) → Capped largest.whole v w → largest.n < v → largest.n < w
capped_large v w c h = by (leb v largest.whole) refl
  where
    by : (t : Bool) → leb v largest.whole ≡ t → largest.n < w
    by true e = let z : v ≡ w = c.same (leb-true v largest.whole e) in omega arith
    by false e = let z : largest.whole < w = c.above (leb-false v largest.whole e) in omega arith

-- digits that were found are digits
pub found_digits : (text : List ℕ) (w : Whole) → Found largest.whole text w → AllDigits w.digits.now
found_digits text w found = subst AllDigits (sym found.digits) (front_digits text)

found_worth : (text : List ℕ) (w : Whole) → Found largest.whole text w → worth 0 w.digits.now ≡ worth 0 text
found_worth text w found = ap (worth 0) found.digits ∙ front_worth text 0

module _ (s : Bool) (text : List ℕ) where
  pub size_wrong : ends text byte.space ≡ false → refused refusal.unreadable_market ≡ size_line s text
  unfolding size_line
  size_wrong e = rw e

  module _ (rest : List ℕ) (e : ends text byte.space ≡ true) (d : rest ≡ drop 1 (past text)) where
    pub columns_wrong : ends rest byte.newline ≡ false → refused refusal.unreadable_market ≡ size_line s text
    unfolding size_line columns_line
    columns_wrong f = rw (e, ← d, f)

    module _ (entries : List ℕ) (f : ends rest byte.newline ≡ true) (g : entries ≡ drop 1 (past rest)) where
      squared_line : squared s (worth 0 text) (worth 0 rest) entries ≡ size_line s text
      unfolding size_line columns_line
      squared_line = rw (e, ← d, f, ← g)

      module _ (rows columns : Whole) (in_rows : Found largest.whole text rows) (in_columns : Found largest.whole rest columns) (t : Bool) (told : t ≡ eqb (worth 0 rows.digits.now) (worth 0 columns.digits.now)) where
        equal : eqb (worth 0 text) (worth 0 rest) ≡ t
        equal = sym (told ∙ (λ i. eqb (found_worth text rows in_rows i) (found_worth rest columns in_columns i)))

        pub sizes_differ : t ≡ false → refused refusal.not_square ≡ size_line s text
        unfolding squared
        sizes_differ h = rw (equal ∙ h) at squared_line

        pub sizes_large : t ≡ true → largest.n < rows.value → refused refusal.too_large ≡ size_line s text
        unfolding squared
        sizes_large h l = rw (equal ∙ h, lt-ltb largest.n (worth 0 text) (capped_large rows.value (worth 0 text) in_rows.value l)) at squared_line

        pub sizes_good : t ≡ true → rows.value ≤ largest.n → value (opened rows.value s entries) ≡ size_line s text
        unfolding squared
        sizes_good h l =
            let same : rows.value ≡ worth 0 text = in_rows.value.same (omega arith) in
            ap {B = Outcome Opened} (λ (x : ℕ). value (opened x s entries)) same ∙ (rw (equal ∙ h, le-ltb largest.n (worth 0 text) (omega arith)) at squared_line)

-- ---- the text whole
-- what comparing a text's first bytes with a header finds
header_found : (s : Bool) (text : List ℕ) → pointwise eqb (take (length (header s)) text) (header s) ≡ starts_with (header s) text
header_found s text = by (pointwise eqb (take (length (header s)) text) (header s)) (starts_with (header s) text) refl refl
  where
    decided : Decides (pointwise eqb (take (length (header s)) text) (header s)) (take (length (header s)) text ≡ header s)
    decided = slice_eq-Decides Decides-eqb (take (length (header s)) text) (header s) (pointwise eqb (take (length (header s)) text) (header s)) refl

    by : (t u : Bool) → pointwise eqb (take (length (header s)) text) (header s) ≡ t → starts_with (header s) text ≡ u → pointwise eqb (take (length (header s)) text) (header s) ≡ starts_with (header s) text
    by true u e g =
        let begun : take (length (header s)) text ++ drop (length (header s)) text ≡ text = take-append-drop (length (header s)) text in
        e ∙ sym (ap (starts_with (header s)) (sym begun ∙ ap (λ (l : List ℕ). l ++ drop (length (header s)) text) (decided.0 e)) ∙ starts_own (header s) (drop (length (header s)) text))
    by false false e g = e ∙ sym g
    by false true e g =
        let same : take (length (header s)) text ≡ header s = ap (take (length (header s))) (header_split s text g) ∙ take-append_seam (header s) (drop (length (header s)) text) in
        absurd (true≢false (sym (decided.1 same) ∙ e))

pub head_long : (text : List ℕ) → largest.market < length text → refused refusal.unreadable_market ≡ head_of text
unfolding head_of
head_long text h = rw (lt-ltb largest.market (length text) h)

module _ (text : List ℕ) (few : length text ≤ largest.market) where
  module _ (o : Outcome Opened) (lines rest : List ℕ) (known : lines ≡ comments false rest) where
    pub head_general : o ≡ size_line false lines → pointwise eqb (take (length (header false)) text) (header false) ≡ true → rest ≡ drop (length (header false)) text → o ≡ head_of text
    unfolding head_of
    head_general told e d = told ∙ ap (size_line false) (known ∙ ap (comments false) d) ∙ rw (le-ltb largest.market (length text) few, sym (header_found false text) ∙ e)

    pub head_symmetric : o ≡ size_line true lines → pointwise eqb (take (length (header false)) text) (header false) ≡ false → pointwise eqb (take (length (header true)) text) (header true) ≡ true → rest ≡ drop (length (header true)) text → o ≡ head_of text
    unfolding head_of
    head_symmetric told n e d =
        told ∙ ap (size_line true) (known ∙ ap (comments false) d) ∙ rw (le-ltb largest.market (length text) few, sym (header_found false text) ∙ n, sym (header_found true text) ∙ e)

  pub head_neither : pointwise eqb (take (length (header false)) text) (header false) ≡ false → pointwise eqb (take (length (header true)) text) (header true) ≡ false → refused refusal.unreadable_market ≡ head_of text
  unfolding head_of
  head_neither n m = rw (le-ltb largest.market (length text) few, sym (header_found false text) ∙ n, sym (header_found true text) ∙ m)
