-- The lines of the matrix as a text of their own: what stands from a place on is, from its own start on, the same words. Assumes nothing.
use Rattle.std.proofs.Common.{◌≡◌, refl, sym, ap, ◌∙◌, ℕ, zero, suc, ◌+◌, ◌*◌, ◌≤◌, Bool, true, false, cond, ◌&&◌, true≢false, List, length, drop, eqb, arith, eq-eqb, eqb-true, ne_eqb}
use lib.ListN.{length-drop, replicate}
use lib.Seq.{get_or-drop}
use lib.Ieee.{Float, binary64, of_bits}
use Rattle.real.specs.Operations.{zero as zero_float}
use Rattle.algebra.specs.Flat.{tabulate}
use Rattle.dual.specs.Rules.{dual_algebra, dual_layout}
use Rattle.matrices.specs.Entries.{lu_left}
use Rattle.jacobi.specs.Entry.{jacobi_left}
use Rattle.texts.specs.Digits.{byte_at, every, is_digit, digit_value, digit_run, number_at}
use Rattle.dualrun_text.specs.Request.{lu_line_refusal, eig_line_refusal}
use Rattle.dualrun_text.specs.Body.{word_digits, word_bytes, separator_of, is_word, word_of, is_body, float_at, floats_from}
use Rattle.dualrun_text.specs.Output.{unreadable, lu_printed, eig_printed, unless_refused, lu_of_lines, eig_of_lines, lu_output, eig_output}

module _ (text : List ℕ) (start : ℕ) where
  run_moved : (base d p : ℕ) → digit_run base d (drop start text) p ≡ digit_run base d text (start + p)
  unfolding digit_run
  run_moved base zero p = refl
  run_moved base (suc d) p =
      ap (λ (b : ℕ). cond (is_digit base b) (suc (digit_run base d (drop start text) (p + 1))) 0) (get_or-drop start text p 0)
      ∙ ap (λ (k : ℕ). cond (is_digit base (byte_at text (start + p))) (suc k) 0) (run_moved base d (p + 1) ∙ ap (digit_run base d text) (let z : start + (p + 1) ≡ start + p + 1 = omega arith in z))

  number_moved : (base p k : ℕ) → number_at base (drop start text) p k ≡ number_at base text (start + p) k
  unfolding number_at
  number_moved base p zero = refl
  number_moved base p (suc k) =
      ap (λ (v : ℕ). v * base + digit_value (byte_at (drop start text) (p + k))) (number_moved base p k)
      ∙ ap (λ (b : ℕ). number_at base text (start + p) k * base + digit_value b) (get_or-drop start text (p + k) 0 ∙ ap (byte_at text) (let z : start + (p + k) ≡ start + p + k = omega arith in z))

  place : (i : ℕ) → start + (0 + word_bytes * i) ≡ start + word_bytes * i
  place i = omega arith

  word_moved : (i : ℕ) → is_word (drop start text) 0 i ≡ is_word text start i
  unfolding is_word
  word_moved i =
      ap (λ (d : ℕ). eqb d word_digits && eqb (byte_at (drop start text) (0 + word_bytes * i + word_digits)) (separator_of i)) (run_moved 16 word_digits (0 + word_bytes * i) ∙ ap (digit_run 16 word_digits text) (place i))
      ∙ ap (λ (b : ℕ). eqb (digit_run 16 word_digits text (start + word_bytes * i)) word_digits && eqb b (separator_of i))
      (get_or-drop start text (0 + word_bytes * i + word_digits) 0 ∙ ap (byte_at text) (let z : start + (0 + word_bytes * i + word_digits) ≡ start + word_bytes * i + word_digits = omega arith in z))

  float_moved : (i : ℕ) → float_at (drop start text) 0 i ≡ float_at text start i
  unfolding word_of
  float_moved i = ap (of_bits binary64) (number_moved 16 (0 + word_bytes * i) word_digits ∙ ap (λ (p : ℕ). number_at 16 text p word_digits) (place i))

  floats_moved : (count : ℕ) → floats_from (drop start text) 0 count ≡ floats_from text start count
  unfolding floats_from
  floats_moved count = ap (λ (f : ℕ → Float). tabulate f count 0) (λ j i. float_moved i j)

  module _ (inside : start ≤ length text) where
    length_moved : (m : ℕ) → eqb (length (drop start text)) (0 + m) ≡ eqb (length text) (start + m)
    length_moved m = by (eqb (length text) (start + m)) refl
      where
        by : (t : Bool) → eqb (length text) (start + m) ≡ t → eqb (length (drop start text)) (0 + m) ≡ t
        by true e = let h : length text ≡ start + m = eqb-true (length text) (start + m) e in eq-eqb (length (drop start text)) (0 + m) (omega (arith, length-drop start text))
        by false e = ne_eqb (length (drop start text)) (0 + m) (λ h. true≢false (sym (eq-eqb (length text) (start + m) (omega (arith, length-drop start text))) ∙ e))

    body_moved : (count : ℕ) → is_body (drop start text) 0 count ≡ is_body text start count
    unfolding is_body
    body_moved count = (λ j. length_moved (word_bytes * count) j && every (λ i. word_moved i j) count)

    pub lu_moved : (n : ℕ) → lu_output (drop start text) n 0 ≡ lu_output text n start
    unfolding lu_output lu_of_lines
    lu_moved n = λ j. unless_refused (lu_line_refusal n) (cond (body_moved (n * n * 2) j) (lu_printed n (lu_left dual_algebra dual_layout n (floats_moved (n * n * 2) j) (replicate (n * n * 2) zero_float) (replicate n 0))) unreadable)

    pub eig_moved : (n limit : ℕ) → eig_output (drop start text) n limit 0 ≡ eig_output text n limit start
    unfolding eig_output eig_of_lines
    eig_moved n limit = λ j. unless_refused (eig_line_refusal n limit) (cond (body_moved (n * n * 2) j) (eig_printed n (jacobi_left dual_algebra dual_layout n (floats_moved (n * n * 2) j) limit (replicate (n * 2) zero_float) (replicate (n * n * 2) zero_float))) unreadable)
