-- The program reads 65,536 bytes and writes at most so many: neither loses anything. Assumes nothing.
use Prim.Native.Nat.{ℕ, zero, suc, ◌+◌, ◌*◌, ◌<◌, ◌≤◌}
use mathlib.Core.Path.{◌≡◌, refl, sym, ap, ◌∙◌}
use mathlib.Core.Bool.{Bool, true, false, cond}
use mathlib.Core.List.{List, [], ◌∷◌, ◌++◌}
use native.Mathlib.Omega.{arith}
use lib.Dec.{ltb, eqb}
use lib.ListN.{length, take, drop, get_or, length-append, replicate}
use lib.Seq.{take_all, get_or-take, length-take-le, sets-eq}
use lib.Ieee.{Float, binary64, to_bits}
use borrow.Author.Tests.{ltb-true, ltb-false, eqb-true}
use Rattle.real.specs.Operations as float
use Rattle.refusals.specs.Number as refusal
use Rattle.algebra.specs.Outcome.{Outcome, value, refused}
use Rattle.dual.specs.Rules.{dual_algebra, dual_layout}
use Rattle.matrices.specs.Entries.{LuLeft, lu_left}
use Rattle.jacobi.specs.Entry.{JacobiLeft, jacobi_left}
use Rattle.texts.specs.Bytes.{space}
use Rattle.texts.specs.Numbers.{decimal_text}
use Rattle.texts.specs.Page.{page, written}
use Rattle.texts.proofs.Page.{written_fits}
use Rattle.texts.proofs.Decimals.{length_decimal, length_hex}
use Rattle.std.specs.Prelude.{Option, Some, None}
use Rattle.dualrun_text.specs.declared.Request.{Request}
use Rattle.dualrun_text.specs.declared.Request.TheVariants.{Lu, Eig}
use Rattle.dualrun_text.specs.Request.{longest_line, request_of, lu_line_refusal, eig_line_refusal}
use Rattle.dualrun_text.specs.Body.{Fits, is_body, floats_from}
use Rattle.dualrun_text.specs.Lines.{word_text, refusal_line, pair_line, record_line, record_lines, entry_text, entries, order_line}
use Rattle.dualrun_text.specs.Output.{lu_lines, lu_printed, eig_lines, eig_printed, lu_of_lines, eig_of_lines, lu_output, eig_output, output_for, output_of, unreadable, unless_refused}
use Rattle.dualrun_text.proofs.Commands.{fits, unless_same, lu_few, eig_few}
use Rattle.dualrun_text.proofs.Words.{body_other_length}
use Rattle.dualrun_text.proofs.FirstBytes.{request_same, start_of, start_small}

-- as many bytes are read and written: more than any text of the largest matrix has
abbrev pub most_bytes : ℕ
most_bytes = 65536

-- ---- a text gives what its first 65,536 bytes give

-- longer than any matrix: no lines of a matrix
module _ (text : List ℕ) (n start : ℕ) (long : most_bytes ≤ length text) (small : Fits n) (early : start ≤ longest_line) where
  no_body : is_body text start (n * n * 2) ≡ false
  no_body = let q = small.square in sym (body_other_length text start (n * n * 2) (λ e. omega arith))

  pub lu_long : (factors : List Float) (order : List ℕ) → lu_of_lines text n start factors order ≡ unreadable
  unfolding lu_of_lines
  lu_long factors order = rw no_body

  pub eig_long : (limit : ℕ) (values vectors : List Float) → eig_of_lines text n limit start values vectors ≡ unreadable
  unfolding eig_of_lines
  eig_long limit values vectors = rw no_body

module _ (s t : List ℕ) (ls : most_bytes ≤ length s) (lt : most_bytes ≤ length t) where
  lu_same : (n start : ℕ) → start ≤ longest_line → lu_output s n start ≡ lu_output t n start
  unfolding lu_output
  lu_same n start h = unless_same (lu_line_refusal n) _ _ (λ z. let f = fits n (lu_few n z) in lu_long s n start ls f h _ _ ∙ sym (lu_long t n start lt f h _ _))

  eig_same : (n limit start : ℕ) → start ≤ longest_line → eig_output s n limit start ≡ eig_output t n limit start
  unfolding eig_output
  eig_same n limit start h = unless_same (eig_line_refusal n limit) _ _ (λ z. let f = fits n (eig_few n limit z) in eig_long s n start ls f h limit _ _ ∙ sym (eig_long t n start lt f h limit _ _))

  output_same : (r : Option Request) → start_of r ≤ longest_line → output_for s r ≡ output_for t r
  output_same (Some (Lu n start)) h = lu_same n start h
  output_same (Some (Eig n limit start)) h = eig_same n limit start h
  output_same None h = refl

pub read_whole : (text : List ℕ) → output_of (take most_bytes text) ≡ output_of text
unfolding output_of
read_whole text = by (ltb most_bytes (length text)) refl
  where
    by : (b : Bool) → ltb most_bytes (length text) ≡ b → output_for (take most_bytes text) (request_of (take most_bytes text)) ≡ output_for text (request_of text)
    by false e = ap (λ (t : List ℕ). output_for t (request_of t)) (take_all most_bytes text (ltb-false most_bytes (length text) e))
    by true e =
        let long : most_bytes < length text = ltb-true most_bytes (length text) e in
        let cut : length (take most_bytes text) ≡ most_bytes = length-take-le most_bytes text (omega arith) in
        ap (output_for (take most_bytes text)) (request_same (take most_bytes text) text (λ i h c. get_or-take most_bytes text i 0 (omega arith)))
        ∙ output_same (take most_bytes text) text (omega arith) (omega arith) (request_of text) (start_small text)

-- ---- no output is longer than 65,536 bytes
length_word : (x : Float) → length (word_text x) ≡ 16
unfolding word_text
length_word x = length_hex (to_bits binary64 x)

length_refusal : (n : ℕ) → length (refusal_line n) ≤ 21
unfolding refusal_line
length_refusal n = simp length-append (omega (arith, length_decimal n))

length_pair : (a b : ℕ) → length (pair_line a b) ≤ 42
unfolding pair_line
length_pair a b = simp length-append (omega (arith, length_decimal a, length_decimal b))

length_record : (re eps : Float) → length (record_line re eps) ≡ 34
unfolding record_line
length_record re eps = simp length-append (omega (arith, length_word re, length_word eps))

length_records : (l : List Float) (k : ℕ) → length (record_lines l k) ≡ 34 * k
unfolding record_lines
length_records l zero = refl
length_records l (suc k) =
    simp length-append (omega (arith, length_records l k, length_record (get_or l (2 * k) float.zero) (get_or l (2 * k + 1) float.zero)))

length_entry : (i x : ℕ) → length (entry_text i x) ≤ 21
length_entry i x = by (eqb i 0)
  where
    by : (b : Bool) → length (cond b (decimal_text x) ((space ∷ []) ++ decimal_text x)) ≤ 21
    by true = omega (arith, length_decimal x)
    by false = omega (arith, length_decimal x)

length_entries : (l : List ℕ) (k : ℕ) → length (entries l k) ≤ 21 * k
unfolding entries
length_entries l zero = omega arith
length_entries l (suc k) = simp length-append (omega (arith, length_entries l k, length_entry k (get_or l k 0)))

length_order : (l : List ℕ) (n : ℕ) → length (order_line l n) ≤ 21 * n + 1
unfolding order_line
length_order l n = simp length-append (omega (arith, length_entries l n))

lu_lines_most : (n : ℕ) (r : Outcome ℕ) (column : ℕ) (factors : List Float) (order : List ℕ) → Fits n → length (lu_lines n r column factors order) ≤ most_bytes
lu_lines_most n (value swaps) column factors order h = simp length-append (omega (arith, h.square, h.few, length_pair 0 swaps, length_order order n, length_records factors (n * n)))
lu_lines_most n (refused number) column factors order h = omega (arith, length_pair number column)

eig_lines_most : (n : ℕ) (r : Outcome ℕ) (values vectors : List Float) → Fits n → length (eig_lines n r values vectors) ≤ most_bytes
eig_lines_most n (value sweeps) values vectors h = simp length-append (omega (arith, h.square, h.few, length_pair 0 sweeps, length_records values n, length_records vectors (n * n)))
eig_lines_most n (refused number) values vectors h = omega (arith, length_pair number 0)

-- the longer of two is short enough
either : (b : Bool) (x y : List ℕ) → length x ≤ most_bytes → length y ≤ most_bytes → length (cond b x y) ≤ most_bytes
either true x y h g = h
either false x y h g = g

-- what is printed unless the first line is refused
unless_most : (k : ℕ) (x : List ℕ) → (k ≡ 0 → length x ≤ most_bytes) → length (unless_refused k x) ≤ most_bytes
unless_most k x h = by (eqb k 0) refl
  where
    by : (b : Bool) → eqb k 0 ≡ b → length (cond b x (pair_line k 0)) ≤ most_bytes
    by true e = h (eqb-true k 0 e)
    by false e = omega (arith, length_pair k 0)

lu_printed_most : (n : ℕ) (left : LuLeft) → Fits n → length (lu_printed n left) ≤ most_bytes
lu_printed_most n left h = lu_lines_most n left.answer left.column left.factors left.order h

eig_printed_most : (n : ℕ) (left : JacobiLeft) → Fits n → length (eig_printed n left) ≤ most_bytes
eig_printed_most n left h = eig_lines_most n left.answer left.values left.vectors h

lu_most : (text : List ℕ) (n start : ℕ) → length (lu_output text n start) ≤ most_bytes
unfolding lu_output lu_of_lines
lu_most text n start =
    unless_most (lu_line_refusal n) _
    (λ e. either (is_body text start (n * n * 2)) _ unreadable (lu_printed_most n (lu_left dual_algebra dual_layout n (floats_from text start (n * n * 2)) (replicate (n * n * 2) float.zero) (replicate n 0)) (fits n (lu_few n e))) (omega (arith, length_refusal refusal.unreadable)))

eig_most : (text : List ℕ) (n limit start : ℕ) → length (eig_output text n limit start) ≤ most_bytes
unfolding eig_output eig_of_lines
eig_most text n limit start =
    unless_most (eig_line_refusal n limit) _
    (λ e. either (is_body text start (n * n * 2)) _ unreadable (eig_printed_most n (jacobi_left dual_algebra dual_layout n (floats_from text start (n * n * 2)) limit (replicate (n * 2) float.zero) (replicate (n * n * 2) float.zero)) (fits n (eig_few n limit e))) (omega (arith, length_refusal refusal.unreadable)))

output_most : (text : List ℕ) (r : Option Request) → length (output_for text r) ≤ most_bytes
output_most text (Some (Lu n start)) = lu_most text n start
output_most text (Some (Eig n limit start)) = eig_most text n limit start
output_most text None = omega (arith, length_refusal refusal.unreadable)

pub written_whole : (text : List ℕ) → length (output_of text) ≤ most_bytes
unfolding output_of
written_whole text = output_most text (request_of text)

-- so a buffer of 65,536 bytes or more begins with the whole output and stays as it was behind it
pub whole_output : (text out : List ℕ) → most_bytes ≤ length out → written (page out 0) (output_of text) ≡ page (output_of text ++ drop (length (output_of text)) out) (length (output_of text))
whole_output text out h =
    let o = output_of text in
    let none : 0 + length o ≡ length o = omega arith in
    let room : 0 + length o ≤ length out = omega (arith, written_whole text) in
    written_fits out 0 o room
    ∙ (λ i. page (sets-eq o out 0 room i) (none i))
    ∙ ap (λ (k : ℕ). page (o ++ drop k out) (length o)) none
