-- Whatever is read is a text of the format: each line that the reader takes is one that the format has, and nothing else is taken. Assumes nothing.
use Prim.Native.Nat.{ℕ, ◌*◌, ◌≤◌, ◌<◌}
use mathlib.Core.Path.{◌≡◌, refl, sym, ap, ◌∙◌, subst}
use mathlib.Core.Bool.{Bool, true, false, cond}
use mathlib.Core.List.{List, ◌∷◌, ◌++◌}
use native.Mathlib.Omega.{arith}
use lib.Dec.{eqb, ltb}
use lib.ListN.{length, drop, length-append}
use lib.Ieee.{Float}
use borrow.Author.Tests.{eqb-true, ltb-false}
use Rattle.refusals.specs.Largest as largest
use Rattle.refusals.specs.Number as refusal
use Rattle.algebra.specs.Outcome.{Outcome, value, refused}
use Rattle.texts.specs.Bytes as byte
use Rattle.texts.specs.Digits.{starts_with}
use Rattle.market.specs.Answers.{Left, answered}
use Rattle.market.specs.Format.{Market, header, count_of}
use Rattle.market.specs.Head.{Opened, comments, after_header, head_of}
use Rattle.market.specs.Entries.{numbers_of, matrix_of}
use Rattle.market.specs.Read.{read_numbers, read_opened, read_body, read_left}
use Rattle.market.proofs.Fronts.{wrong, taken, spared, header_split}
use Rattle.market.proofs.ReadsFormat.{untidy}
use Rattle.market.proofs.HeadTaken.{Passed, comments_split, Sized, size_split}
use Rattle.market.proofs.EntriesTaken.{Listed, numbers_split}

-- one of the two headers stands first, and what comes after it opens o
record Headed (text : List ℕ) (o : Opened) : Type 0 where
  kind : Bool
  starts : starts_with (header kind) text ≡ true
  after : after_header kind text ≡ value o

headed : (text : List ℕ) (o : Opened) → head_of text ≡ value o → (length text ≤ largest.market) × Headed text o
unfolding head_of
headed text o e =
    let a = spared refusal.unreadable_market o (ltb largest.market (length text)) (cond (starts_with (header false) text) (after_header false text) (cond (starts_with (header true) text) (after_header true text) (refused refusal.unreadable_market))) e in
    (ltb-false largest.market (length text) a.0, by (starts_with (header false) text) refl a.1)
  where
    by : (t : Bool) → starts_with (header false) text ≡ t → cond t (after_header false text) (cond (starts_with (header true) text) (after_header true text) (refused refusal.unreadable_market)) ≡ value o → Headed text o
    by true q h = record { kind = false; starts = q; after = h }
    by false q h =
        let a = taken refusal.unreadable_market o (starts_with (header true) text) (after_header true text) h in
        record { kind = true; starts = a.0; after = a.1 }

module _ (text : List ℕ) (o : Opened) where
  abbrev size_on : Bool → List ℕ
  size_on s = comments false (drop (length (header s)) text)

  size_some : (s : Bool) → Sized s (size_on s) o → 0 < length (size_on s)
  size_some s sized = omega (arith, ap length sized.lines, length-append sized.rows (byte.space ∷ (sized.columns ++ (byte.newline ∷ o.rest))))

  module _ (numbers : List Float) (fits : length text ≤ largest.market) (listed : Listed (count_of o.symmetric o.n) o.rest numbers) where
    market_lines : (s : Bool) → starts_with (header s) text ≡ true → Sized s (size_on s) o → Passed false (drop (length (header s)) text) (size_on s) → Market false o.symmetric o.n numbers text
    market_lines s starts sized passed = record {
      comments = passed.lines;
      rows = sized.rows;
      columns = sized.columns;
      entries = o.rest;
      lines = header_split s text starts ∙ (λ i. header (sized.kind i) ++ passed.same i) ∙ ap (λ (l : List ℕ). header o.symmetric ++ (passed.lines ++ l)) sized.lines;
      commented = passed.commented;
      plain = untidy;
      row_digits = sized.row_digits;
      column_digits = sized.column_digits;
      short_rows = untidy;
      short_columns = untidy;
      height = sized.height;
      breadth = sized.breadth;
      listed = listed.listed;
      count = listed.count;
      few = sized.few;
      fits = fits;
    }

  opened_market : (numbers : List Float) → head_of text ≡ value o → numbers_of (count_of o.symmetric o.n) o.rest ≡ value numbers → Market false o.symmetric o.n numbers text
  opened_market numbers e f =
      let h = headed text o e in
      let s = h.1.kind in
      let sized = size_split s (size_on s) o h.1.after in
      market_lines numbers h.0 (numbers_split (count_of o.symmetric o.n) o.rest numbers f) s h.1.starts sized (comments_split false (drop (length (header s)) text) (size_on s) refl (size_some s sized))

-- what a call of the reader that was not refused says: the text is one of the format, and what it left is the matrix of the text's numbers
pub record Reading (w : ℕ) (text : List ℕ) (out : List Float) (n : ℕ) (left : List Float) : Type 0 where
  pub room : length out ≡ n * n * w
  pub symmetric : Bool
  pub numbers : List Float
  pub market : Market false symmetric n numbers text
  pub matrix : left ≡ matrix_of w symmetric n numbers

module _ (w : ℕ) (text : List ℕ) (out : List Float) (n : ℕ) (left : List Float) where
  -- the call answers with a size
  unanswered : (number : ℕ) → answered (refused number) out ≡ answered (value n) left → ⊥
  unanswered number e = wrong number n (ap (λ (l : Left Float). l.answer) e)

  module _ (o : Opened) (head : head_of text ≡ value o) where
    reading_numbers : (r : Outcome (List Float)) → numbers_of (count_of o.symmetric o.n) o.rest ≡ r → length out ≡ o.n * o.n * w → read_numbers w out o.symmetric o.n r ≡ answered (value n) left → Reading w text out n left
    reading_numbers (refused number) f room e = absurd (unanswered number e)
    reading_numbers (value numbers) f room e =
        let answers : ◌≡◌ {A = Outcome ℕ} (value o.n) (value n) = ap (λ (l : Left Float). l.answer) e in
        let size : o.n ≡ n = cc in
        record {
          room = room ∙ ap (λ (m : ℕ). m * m * w) size;
          symmetric = o.symmetric;
          numbers = numbers;
          market = subst (λ (m : ℕ). Market false o.symmetric m numbers text) size (opened_market text o numbers head f);
          matrix = ap (λ (l : Left Float). l.buffer) (sym e) ∙ ap (λ (m : ℕ). matrix_of w o.symmetric m numbers) size;
        }

    reading_body : (t : Bool) → eqb (length out) (o.n * o.n * w) ≡ t
        → cond t (read_numbers w out o.symmetric o.n (numbers_of (count_of o.symmetric o.n) o.rest)) (answered (refused refusal.wrong_length) out) ≡ answered (value n) left → Reading w text out n left
    reading_body true f e = reading_numbers (numbers_of (count_of o.symmetric o.n) o.rest) refl (eqb-true (length out) (o.n * o.n * w) f) e
    reading_body false f e = absurd (unanswered refusal.wrong_length e)

  reading_opened : (r : Outcome Opened) → head_of text ≡ r → read_opened w out r ≡ answered (value n) left → Reading w text out n left
  unfolding read_body
  reading_opened (refused number) f e = absurd (unanswered number e)
  reading_opened (value o) f e = reading_body o f (eqb (length out) (o.n * o.n * w)) refl e

  -- whatever is read is a text of the format
  pub read_market : read_left w text out ≡ answered (value n) left → Reading w text out n left
  unfolding read_left
  read_market e = reading_opened (head_of text) refl e
