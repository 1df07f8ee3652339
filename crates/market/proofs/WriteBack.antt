-- A tidy text of a general matrix that was read, written again, is that text. Assumes nothing.
use Prim.Native.Nat.{ℕ, zero, suc, ◌+◌, ◌*◌, ◌/◌, ◌%◌, ◌<◌}
use mathlib.Core.Path.{◌≡◌, refl, sym, ap, ◌∙◌}
use mathlib.Core.Bool.{true, false, cond, true≢false}
use mathlib.Core.List.{List, ◌∷◌, ◌++◌}
use native.Mathlib.Decide.{ℕ_discrete}
use native.Mathlib.Omega.{arith}
use lib.Dec.{eqb}
use lib.ListN.{length, get_or}
use lib.Seq.{ext_get_or}
use lib.Ieee.{Float, eq, of_bits}
use borrow.Author.Tests.{le-ltb, eq-eqb, ne_eqb}
use Rattle.refusals.specs.Largest as largest
use Rattle.real.specs.Operations as float
use Rattle.algebra.specs.Outcome.{value}
use Rattle.algebra.specs.Flat.{tabulate}
use Rattle.algebra.proofs.Flat.{tabulate_length, tabulate_at}
use Rattle.texts.specs.Bytes as byte
use Rattle.texts.specs.Numbers.{decimal_text}
use Rattle.texts.specs.Whole.{worth}
use Rattle.texts.proofs.Every.{every_true}
use Rattle.market.specs.Answers.{answered}
use Rattle.market.specs.Format.{Digits, Short, Entries, Market, header, sign, signed, count_of}
use Rattle.market.specs.Format.Entries.{none, entry}
use Rattle.market.specs.Entries.{matrix_of}
use Rattle.market.specs.Read.{read_left}
use Rattle.market.specs.Text.{is_whole, entry_at, lines_of, text_of, fits_at, is_writable}
use Rattle.market.specs.Write.{page, write_text, write_left}
use Rattle.market.proofs.Places.{turned, turned_inside, turned_back, first_rest, first_record, first_inside}
use Rattle.market.proofs.WholeFloats.{zero_is, of_zero}
use Rattle.market.proofs.SignedLines.{signed_whole, signed_line}
use Rattle.market.proofs.DecimalsBack.{decimal_back}
use Rattle.market.proofs.Lines.{number_shape, text_shape}
use Rattle.market.proofs.EntryLines.{lines_each, entries_of, lines_each_lem}
use Rattle.market.proofs.MatrixAt.{float_general, float_other, matrix_length, matrix_at}
use Rattle.market.proofs.ReadsFormat.{one_reading, tidy_market}
use Rattle.market.proofs.FormatRead.{read_market}

-- ---- the entries of a tidy text
entries_lines : (text : List ℕ) (numbers : List Float) → Entries true text numbers → lines_each numbers ≡ text
entries_lines text numbers none = refl
entries_lines text numbers (entry minus digits rest others all small short some more) =
    ap (λ (l : List ℕ). l ++ lines_each others) (signed_line (worth 0 digits) small minus (some refl))
    ∙ number_shape minus (worth 0 digits) (lines_each others)
    ∙ (λ i. sign minus ++ (decimal_back digits all (short refl) (omega arith) i ++ (byte.newline ∷ entries_lines rest others more i)))

zero_whole : is_whole float.zero ≡ true
unfolding signed
zero_whole = ap is_whole (zero_is ∙ sym (of_zero 0 refl)) ∙ signed_whole 0 (omega arith) false (λ e. absurd (true≢false (sym e)))

entries_whole : (text : List ℕ) (numbers : List Float) → Entries true text numbers → (k : ℕ) → is_whole (get_or numbers k float.zero) ≡ true
entries_whole text numbers none k = zero_whole
entries_whole text numbers (entry minus digits rest others all small short some more) zero = signed_whole (worth 0 digits) small minus (some refl)
entries_whole text numbers (entry minus digits rest others all small short some more) (suc k) = entries_whole rest others more k

-- ---- the matrix of some numbers: they are its entries, and it can be written if they are whole
module _ (w n : ℕ) (numbers : List Float) (positive : 0 < w) where
  entry_back : (k : ℕ) → k < n * n → entry_at w n (matrix_of w false n numbers) k ≡ get_or numbers k float.zero
  unfolding entry_at
  entry_back k h =
      matrix_at w false n numbers (turned n k * w) (first_inside w positive (turned n k) (n * n) (turned_inside n k h))
      ∙ float_general w n numbers (turned n k * w) (first_rest w positive (turned n k))
      ∙ ap (λ (i : ℕ). get_or numbers (turned n i) float.zero) (first_record w positive (turned n k))
      ∙ ap (λ (i : ℕ). get_or numbers i float.zero) (turned_back n k h)

  entries_back : length numbers ≡ n * n → entries_of w n (matrix_of w false n numbers) ≡ numbers
  entries_back long =
      let at : ℕ → Float = entry_at w n (matrix_of w false n numbers) in
      let size : length (tabulate at (n * n) 0) ≡ n * n = tabulate_length at (n * n) 0 in
      ext_get_or float.zero (tabulate at (n * n) 0) numbers (size ∙ sym long)
      (λ k h.
      let g : k < n * n = omega arith in
      tabulate_at at (n * n) 0 k float.zero g ∙ ap at (let z : 0 + k ≡ k = omega arith in z) ∙ entry_back k g)

  module _ (whole : (k : ℕ) → is_whole (get_or numbers k float.zero) ≡ true) where
    fits_back : (j : ℕ) → j < n * n * w → fits_at w (matrix_of w false n numbers) j ≡ true
    unfolding fits_at eq of_bits
    fits_back j h = by (ℕ_discrete (j % w) 0)
      where
        by : Dec (j % w ≡ 0) → cond (eqb (j % w) 0) (is_whole (get_or (matrix_of w false n numbers) j float.zero)) (eq (get_or (matrix_of w false n numbers) j float.zero) float.zero) ≡ true
        by (yes e) = rw (eq-eqb (j % w) 0 e) (ap is_whole (matrix_at w false n numbers j h ∙ float_general w n numbers j e) ∙ whole (turned n (j / w)))
        by (no e) = rw (ne_eqb (j % w) 0 e) (ap (λ (x : Float). eq x float.zero) (matrix_at w false n numbers j h ∙ float_other w false n numbers j e))

    writable_back : is_writable w (matrix_of w false n numbers) ≡ true
    unfolding is_writable
    writable_back = every_true (fits_at w (matrix_of w false n numbers)) (length (matrix_of w false n numbers)) (λ j h. fits_back j (omega (arith, matrix_length w false n numbers)))

-- ---- the text
module _ (w n : ℕ) (numbers : List Float) (t : List ℕ) (positive : 0 < w) (market : Market true false n numbers t) where
  abbrev matrix : List Float
  matrix = matrix_of w false n numbers

  lines_back : lines_of w n matrix (n * n) ≡ market.entries
  unfolding count_of
  lines_back = lines_each_lem w n matrix ∙ ap lines_each (entries_back w n numbers positive market.count) ∙ entries_lines market.entries numbers market.listed

  size_digits : (l : List ℕ) → Digits l → Short l → worth 0 l ≡ n → decimal_text n ≡ l
  size_digits l all short same = let few = market.few in ap decimal_text (sym same) ∙ decimal_back l all short (omega arith)

  -- what is written of the matrix that was read is the text that it was read from
  pub text_same : text_of w n matrix ≡ t
  text_same =
      text_shape w n matrix
      ∙ (λ i. header false ++ (size_digits market.rows market.row_digits (market.short_rows refl) market.height i ++ (byte.space ∷ (size_digits market.columns market.column_digits (market.short_columns refl) market.breadth i ++ (byte.newline ∷ lines_back i)))))
      ∙ (λ i. header false ++ (sym (market.plain refl) i ++ (market.rows ++ (byte.space ∷ (market.columns ++ (byte.newline ∷ market.entries))))))
      ∙ sym market.lines

  -- Whatever the bytes lent: the writer, given the matrix that a tidy text of a general matrix is read to, leaves that text.
  pub write_back : (text : List ℕ) → length text ≡ page → write_left w n matrix text ≡ write_text t
  unfolding write_left
  write_back text room =
      rw (le-ltb largest.n n market.few, eq-eqb (length matrix) (n * n * w) (matrix_length w false n numbers), eq-eqb (length text) page room, writable_back w n numbers positive (entries_whole market.entries numbers market.listed)) (ap write_text text_same)

  -- whatever was lent to either: a tidy text of a general matrix that is read, written again, is that text
  pub read_then_written : (out left : List Float) (m : ℕ) (text : List ℕ) → read_left w t out ≡ answered (value m) left → length text ≡ page → write_left w m left text ≡ write_text t
  read_then_written out left m text e room =
      let reading = read_market w t out m left e in
      let same = one_reading reading.symmetric false m n reading.numbers numbers t reading.market (tidy_market false n numbers t market) in
      (λ i. write_left w (same.1 i) ((reading.matrix ∙ (λ j. matrix_of w (same.0 j) (same.1 j) (same.2 j))) i) text) ∙ write_back text room
