-- A text of the format is read to its matrix, line by line; so a text has one size and one list of numbers. Assumes nothing.
use Prim.Native.Nat.{ℕ, suc, ◌*◌, ◌≤◌}
use mathlib.Core.Path.{◌≡◌, refl, sym, ap, ◌∙◌, subst}
use mathlib.Core.Bool.{Bool, true, false, true≢false}
use mathlib.Core.List.{List, [], ◌∷◌, ◌++◌, append_assoc}
use native.Mathlib.Omega.{arith}
use lib.ListN.{length}
use lib.Ieee.{Float}
use borrow.Author.Tests.{eq-eqb, ne_eqb}
use Rattle.refusals.specs.Largest as largest
use Rattle.algebra.specs.Outcome.{value, map_outcome}
use Rattle.texts.specs.Bytes as byte
use Rattle.texts.specs.Digits.{byte_at, is_digit}
use Rattle.texts.specs.Whole.{worth}
use Rattle.texts.proofs.Newline.{Clear, clear_text}
use Rattle.market.specs.Answers.{answered}
use Rattle.market.specs.Format.{Comments, Entries, Market, signed, count_of}
use Rattle.market.specs.Format.Comments.{none as uncommented, comment}
use Rattle.market.specs.Format.Entries.{none, entry}
use Rattle.market.specs.Head.{Opened, opened, comments, squared, size_line, head_of, size_of}
use Rattle.market.specs.Entries.{entry_then, numbers_of, matrix_of}
use Rattle.market.specs.Read.{read_numbers, read_opened, read_body, read_left}
use Rattle.market.proofs.Decimals.{first_digit}
use Rattle.market.proofs.Lines.{no_comment, header_read, size_read, square_read, entry_read}

-- ---- comment lines
comment_read : (line l : List ℕ) → Clear line (length line) → comments true (line ++ (byte.newline ∷ l)) ≡ comments false l
unfolding comments
comment_read [] l clear = refl
comment_read (b ∷ line) l clear = rw (ne_eqb b byte.newline (clear 0 (omega arith))) (comment_read line l (λ j h. clear (suc j) (omega arith)))

comments_read : (c r : List ℕ) → Comments c → is_digit 10 (byte_at r 0) ≡ true → comments false (c ++ r) ≡ r
unfolding comments
comments_read c r uncommented d = no_comment r d
comments_read c r (comment line rest clear more) d =
    ap (comments true) (append_assoc line (byte.newline ∷ rest) r)
    ∙ comment_read line (rest ++ r) (clear_text line clear)
    ∙ comments_read rest r more d

-- ---- entries
entries_read : (tidy : Bool) (text : List ℕ) (numbers : List Float) → Entries tidy text numbers → numbers_of (length numbers) text ≡ value numbers
unfolding numbers_of
entries_read tidy text numbers none = refl
entries_read tidy text numbers (entry minus digits rest others all small short some more) =
    ap (entry_then (numbers_of (length others))) (entry_read digits rest all small minus)
    ∙ ap (map_outcome (λ (l : List Float). signed minus (worth 0 digits) ∷ l)) (entries_read tidy rest others more)

-- ---- the text
module _ (symmetric : Bool) (n : ℕ) (numbers : List Float) (text : List ℕ) (market : Market false symmetric n numbers text) where
  head_is : head_of text ≡ value (opened n symmetric market.entries)
  head_is =
      let size = market.rows ++ (byte.space ∷ (market.columns ++ (byte.newline ∷ market.entries))) in
      ap head_of market.lines
      ∙ header_read symmetric (market.comments ++ size) (subst (λ (l : List ℕ). length l ≤ largest.market) market.lines market.fits)
      ∙ ap (size_line symmetric) (comments_read market.comments size market.commented (first_digit market.rows market.row_digits (byte.space ∷ (market.columns ++ (byte.newline ∷ market.entries)))))
      ∙ size_read symmetric market.rows market.columns market.entries market.row_digits market.column_digits
      ∙ (λ i. squared symmetric (market.height i) (market.breadth i) market.entries)
      ∙ square_read symmetric n market.entries market.few

  numbers_are : numbers_of (count_of symmetric n) market.entries ≡ value numbers
  numbers_are = ap (λ (k : ℕ). numbers_of k market.entries) (sym market.count) ∙ entries_read false market.entries numbers market.listed

-- its size is told right
pub market_size : (symmetric : Bool) (n : ℕ) (numbers : List Float) (text : List ℕ) → Market false symmetric n numbers text → size_of text ≡ value n
unfolding size_of
market_size symmetric n numbers text market = ap (map_outcome (λ (o : Opened). o.n)) (head_is symmetric n numbers text market)

-- a text of the format is read to its matrix
pub market_read : (w : ℕ) (symmetric : Bool) (n : ℕ) (numbers : List Float) (text : List ℕ) → Market false symmetric n numbers text → (out : List Float) → length out ≡ n * n * w
    → read_left w text out ≡ answered (value n) (matrix_of w symmetric n numbers)
unfolding read_left read_body
market_read w symmetric n numbers text market out room =
    ap (read_opened w out) (head_is symmetric n numbers text market)
    ∙ rw (eq-eqb (length out) (n * n * w) room) (ap (read_numbers w out symmetric n) (numbers_are symmetric n numbers text market))

-- a text has one size and one list of numbers
pub one_reading : (symmetric symmetric' : Bool) (n n' : ℕ) (numbers numbers' : List Float) (text : List ℕ) → Market false symmetric n numbers text → Market false symmetric' n' numbers' text
    → (symmetric ≡ symmetric') × (n ≡ n') × (numbers ≡ numbers')
one_reading symmetric symmetric' n n' numbers numbers' text market market' =
    let head = head_is symmetric n numbers text market in
    let head' = head_is symmetric' n' numbers' text market' in
    let all = numbers_are symmetric n numbers text market in
    let all' = numbers_are symmetric' n' numbers' text market' in
    let same : opened n symmetric market.entries ≡ opened n' symmetric' market'.entries = cc in
    let counted : numbers_of (count_of symmetric n) market.entries ≡ numbers_of (count_of symmetric' n') market'.entries = (λ i. numbers_of (count_of (same i).symmetric (same i).n) (same i).rest) in
    (ap (λ (o : Opened). o.symmetric) same, ap (λ (o : Opened). o.n) same, (cc))

-- ---- a tidy text is a text
-- a text that need not be tidy owes nothing for it
pub untidy : {P : Type 0} → false ≡ true → P
untidy e = absurd (true≢false (sym e))

tidy_entries : (text : List ℕ) (numbers : List Float) → Entries true text numbers → Entries false text numbers
tidy_entries text numbers none = none
tidy_entries text numbers (entry minus digits rest others all small short some more) =
    entry minus digits rest others all small untidy untidy (tidy_entries rest others more)

pub tidy_market : (symmetric : Bool) (n : ℕ) (numbers : List Float) (text : List ℕ) → Market true symmetric n numbers text → Market false symmetric n numbers text
tidy_market symmetric n numbers text market = record {
  comments = market.comments;
  rows = market.rows;
  columns = market.columns;
  entries = market.entries;
  lines = market.lines;
  commented = market.commented;
  plain = untidy;
  row_digits = market.row_digits;
  column_digits = market.column_digits;
  short_rows = untidy;
  short_columns = untidy;
  height = market.height;
  breadth = market.breadth;
  listed = tidy_entries market.entries numbers market.listed;
  count = market.count;
  few = market.few;
  fits = market.fits;
}
