-- No newline before a place: what digits and numbers keep, since none of their bytes is a newline. Assumes nothing.
use Prim.Native.Nat.{ℕ, zero, suc, ◌+◌, ◌<◌, ◌≤◌}
use mathlib.Core.Path.{◌≡◌, refl, sym, ap, subst, ◌∙◌}
use mathlib.Core.Bool.{Bool, true, false, cond, not, ◌&&◌, true≢false}
use mathlib.Core.List.{List}
use native.Mathlib.Omega.{arith}
use lib.Dec.{leb, ltb, eqb}
use lib.ListN.{length}
use borrow.Author.Tests.{ltb-true, ltb-false, ne_eqb, eqb-false, not-true}
use Rattle.std.specs.Prelude.{Some, None}
use Rattle.texts.specs.declared.Number.{Number}
use Rattle.texts.specs.Bytes.{newline}
use Rattle.texts.specs.Digits.{byte_at, no_newline, is_digit, digit_value, digit_run, number_at}
use Rattle.texts.specs.Numbers.{number_from}
use Rattle.texts.proofs.Every.{every_true, every_at}
use Rattle.texts.proofs.Numbers.{end_of}

-- no newline stands before p
abbrev pub Clear : List ℕ → ℕ → Type 0
Clear t p = (j : ℕ) → j < p → byte_at t j ≡ newline → ⊥

-- a digit is no newline
pub digit_clear : (b : ℕ) → is_digit 10 b ≡ true → b ≡ newline → ⊥
unfolding digit_value
digit_clear b d e = true≢false (sym d ∙ ap (is_digit 10) e)

module _ (t : List ℕ) where
  pub clear_none : Clear t 0
  clear_none j h e = absurd (omega arith)

  pub clear_fewer : {q : ℕ} (p : ℕ) → Clear t q → p ≤ q → Clear t p
  clear_fewer p c h j lt e = c j (omega arith) e

  pub clear_more : (p : ℕ) → Clear t p → (byte_at t p ≡ newline → ⊥) → Clear t (p + 1)
  clear_more p c h j lt e = by (ltb j p) refl
    where
      by : (b : Bool) → ltb j p ≡ b → ⊥
      by true r = c j (ltb-true j p r) e
      by false r = let g = ltb-false j p r in let q : p ≡ j = omega arith in h (ap (byte_at t) q ∙ e)

  -- the test of a whole text
  pub clear_text : no_newline t ≡ true → Clear t (length t)
  unfolding no_newline
  clear_text h j lt e = eqb-false (byte_at t j) newline (not-true _ (every_at (λ i. not (eqb (byte_at t i) newline)) (length t) j h lt)) e

  pub text_clear : Clear t (length t) → no_newline t ≡ true
  unfolding no_newline
  text_clear c = every_true (λ i. not (eqb (byte_at t i) newline)) (length t) (λ k lt. ap not (ne_eqb (byte_at t k) newline (c k lt)))

  -- a run of digits has none
  pub run_clear : (d p : ℕ) → Clear t p → Clear t (p + digit_run 10 d t p)
  unfolding digit_run
  run_clear zero p c = clear_fewer (p + 0) c (omega arith)
  run_clear (suc d) p c = by (is_digit 10 (byte_at t p)) refl (run_clear d (p + 1))
    where
      by : (b : Bool) → is_digit 10 (byte_at t p) ≡ b → (Clear t (p + 1) → Clear t (p + 1 + digit_run 10 d t (p + 1))) → Clear t (p + cond b (suc (digit_run 10 d t (p + 1))) 0)
      by true e more = clear_fewer (p + suc (digit_run 10 d t (p + 1))) (more (clear_more p c (digit_clear (byte_at t p) e))) (omega arith)
      by false e more = clear_fewer (p + 0) c (omega arith)

  pub number_clear : (most p : ℕ) (n : Number) → number_from most t p ≡ Some n → Clear t p → Clear t n.end
  unfolding number_from
  number_clear most p n e c =
      let k = digit_run 10 (most + 1) t p in
      subst (Clear t) (ap end_of e) (by k (ltb 0 k && leb k most) (run_clear (most + 1) p c))
    where
      by : (k : ℕ) (b : Bool) → Clear t (p + k) → Clear t (end_of (cond b (Some (record { value = number_at 10 t p k; end = p + k })) None))
      by k true h = h
      by k false h = clear_none
