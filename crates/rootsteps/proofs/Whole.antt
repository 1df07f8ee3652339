-- The program reads 4,096 bytes and writes at most so many: neither loses anything. Assumes nothing.
use Prim.Native.Nat.{ℕ, zero, suc, ◌+◌, ◌-◌, ◌*◌, ◌/◌, ◌<◌, ◌≤◌}
use mathlib.Core.Path.{◌≡◌, refl, sym, ap, ◌∙◌}
use mathlib.Core.Bool.{Bool, true, false, cond}
use mathlib.Core.List.{List, [], ◌∷◌, ◌++◌}
use native.Mathlib.Nat.{le_trans}
use native.Mathlib.Omega.{arith}
use lib.Dec.{ltb, eqb}
use lib.ListN.{length, take, length-append}
use lib.Seq.{take_all, length-take-le}
use borrow.Author.Tests.{ltb-true, ltb-false}
use Rattle.real.specs.declared.root.Found.{Found}
use Rattle.real.specs.Bits.{trial_of, fits_next, next_of}
use Rattle.std.specs.Prelude.{Option, Some, None}
use Rattle.texts.specs.declared.Number.{Number}
use Rattle.texts.specs.Bytes.{newline, space}
use Rattle.texts.specs.Digits.{byte_at}
use Rattle.texts.specs.Numbers.{number_from}
use Rattle.texts.proofs.Numbers.{number_end}
use Rattle.texts.proofs.Decimals.{length_decimal}
use Rattle.rootsteps.specs.declared.Steps.{Steps}
use Rattle.rootsteps.specs.Words.{opening, bar, times, plus, equals, times_power, nearest_word, over_power}
use Rattle.rootsteps.specs.Request.{number_digits, most_bits, asked, with_bits, bits_from, with_number, request_of}
use Rattle.rootsteps.specs.Table.{labelled, row_end, leading_row, verdict, row_of, rows_of, sum_line, nearest_of, nearest_line, table_of}
use Rattle.rootsteps.specs.Output.{output_for, output_of}
use Rattle.rootsteps.proofs.Asking.{ends_later, askable}

-- as many bytes are read and written
abbrev pub most_bytes : ℕ
most_bytes = 4096

-- ---- a text gives what its first 4,096 bytes give: one that long asks nothing
module _ (text : List ℕ) (long : most_bytes ≤ length text) where
  bits_refused : (number p : ℕ) (m : Option Number) → p ≤ number_digits + 1 → m ≡ number_from number_digits text p → with_bits text number m ≡ None
  bits_refused number p (Some bits) h read =
      let early : bits.end ≤ p + number_digits = number_end number_digits text p bits (sym read) in
      ap (λ (t : Bool). cond t (asked number bits.value) None) (sym (ends_later text bits.end (λ e. omega arith) (λ e. omega arith)))
  bits_refused number p None h read = refl

  number_refused : (m : Option Number) → m ≡ number_from number_digits text 0 → with_number text m ≡ None
  unfolding bits_from
  number_refused (Some number) read = by (eqb (byte_at text number.end) space)
    where
      by : (t : Bool) → cond t (with_bits text number.value (number_from number_digits text (number.end + 1))) None ≡ None
      by true = bits_refused number.value (number.end + 1) (number_from number_digits text (number.end + 1)) (omega (arith, number_end number_digits text 0 number (sym read))) refl
      by false = refl
  number_refused None read = refl

  long_refused : request_of text ≡ None
  unfolding request_of
  long_refused = number_refused (number_from number_digits text 0) refl

pub read_whole : (text : List ℕ) → output_of (take most_bytes text) ≡ output_of text
unfolding output_of
read_whole text = by (ltb most_bytes (length text)) refl
  where
    by : (b : Bool) → ltb most_bytes (length text) ≡ b → output_for (request_of (take most_bytes text)) ≡ output_for (request_of text)
    by false e = ap (λ (t : List ℕ). output_for (request_of t)) (take_all most_bytes text (ltb-false most_bytes (length text) e))
    by true e =
        let long : most_bytes < length text = ltb-true most_bytes (length text) e in
        let cut : length (take most_bytes text) ≡ most_bytes = length-take-le most_bytes text (omega arith) in
        ap output_for (long_refused (take most_bytes text) (omega arith) ∙ sym (long_refused text (omega arith)))

-- ---- no output is longer than 4,096 bytes
length_labelled : (label : List ℕ) (n : ℕ) → length (labelled label n) ≤ length label + 20
unfolding labelled
length_labelled label n = simp length-append (omega (arith, length_decimal n))

length_row_end : (root left : ℕ) → length (row_end root left) ≤ 49
unfolding row_end
length_row_end root left = simp length-append (omega (arith, length_labelled bar root, length_labelled bar left))

length_leading : (top left : ℕ) → length (leading_row top left) ≤ 160
unfolding leading_row
length_leading top left = simp length-append (omega (arith, length_labelled opening top, length_row_end top left))

length_verdict : (fits : Bool) → length (verdict fits) ≤ 6
length_verdict true = omega arith
length_verdict false = omega arith

length_row : (f : Found) → length (row_of f) ≤ 123
unfolding row_of
length_row f =
    simp length-append
    (omega (arith, length_labelled opening f.bit, length_labelled bar (trial_of f), length_labelled bar (2 * f.rest), length_verdict (fits_next f), length_row_end ((next_of f).twice / 2) (next_of f).rest))

length_rows : (digits : ℕ) (f : Found) → length (rows_of digits f) ≤ 123 * digits
unfolding rows_of
length_rows zero f = omega arith
length_rows (suc digits) f = omega (arith, length-append (row_of f) (rows_of digits (next_of f)), length_row f, length_rows digits (next_of f))

length_sum : (root left number exponent : ℕ) → length (sum_line root left number exponent) ≤ 116
unfolding sum_line
length_sum root left number exponent =
    simp length-append
    (omega (arith, length_labelled (newline ∷ []) root, length_labelled times root, length_labelled plus left, length_labelled equals number, length_labelled times_power exponent))

length_nearest : (root left power : ℕ) → length (nearest_line root left power) ≤ 56
unfolding nearest_line
length_nearest root left power = simp length-append (omega (arith, length_labelled nearest_word (nearest_of root left), length_labelled over_power power))

-- four parts, by the most of each
joined : (a b d e : List ℕ) (k l m n : ℕ) → length a ≤ k → length b ≤ l → length d ≤ m → length e ≤ n → length (a ++ b ++ d ++ e) ≤ k + l + m + n
joined a b d e k l m n f g h i = simp length-append (omega arith)

length_table : (number bits : ℕ) → bits ≤ most_bits → length (table_of number bits) ≤ most_bytes
unfolding table_of
length_table number bits h =
    le_trans (joined (leading_row _ _) (rows_of (bits - 1) _) (sum_line _ _ _ _) (nearest_line _ _ _) 160 (123 * (bits - 1)) 116 56 (length_leading _ _) (length_rows (bits - 1) _) (length_sum _ _ _ _) (length_nearest _ _ _)) (omega arith)

output_most : (text : List ℕ) (r : Option Steps) → r ≡ request_of text → length (output_for r) ≤ most_bytes
output_most text (Some asked) e = length_table asked.number asked.bits (askable text (Some asked) asked e refl).few
output_most text None e = omega arith

pub written_whole : (text : List ℕ) → length (output_of text) ≤ most_bytes
unfolding output_of
written_whole text = output_most text (request_of text) refl
