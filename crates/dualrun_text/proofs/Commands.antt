-- The two commands, case by case: each law says what is written, by the tests and the calls that led to it. Assumes nothing.
use Prim.Native.Nat.{ℕ, zero, suc, ◌*◌, ◌≤◌}
use mathlib.Core.Path.{◌≡◌, refl, sym, ap, ◌∙◌}
use mathlib.Core.Bool.{Bool, true, false, cond}
use mathlib.Core.List.{List, ◌∷◌}
use native.Mathlib.Nat.{mul-le-mul_left, mul-le-mul_right, le_trans}
use native.Mathlib.Omega.{arith}
use lib.Dec.{ltb, eqb}
use lib.ListN.{length, take, replicate}
use lib.Ieee.{Float}
use borrow.Author.Tests.{ltb-false, eqb-true, eq-eqb, ne_eqb}
use Rattle.real.specs.Operations as float
use Rattle.refusals.specs.Largest as largest
use Rattle.algebra.specs.Outcome.{outcome, number_of}
use Rattle.dual.specs.Rules.{dual_algebra, dual_layout}
use Rattle.matrices.specs.Entries.{LuLeft, lu_left}
use Rattle.matrices.specs.Answers.{lu_outcome, lu_column}
use Rattle.matrices.proofs.Answers.{passed}
use Rattle.matrices.specs.declared.LuRefusal.{LuRefusal}
use Rattle.matrices.specs.declared.LuRefusal.TheVariants as lu
use Rattle.jacobi.specs.Entry.{JacobiLeft, jacobi_left}
use Rattle.texts.specs.declared.write.Writer.{Writer}
use Rattle.texts.specs.Page.{Puts}
use Rattle.texts.proofs.Page.{puts_then, puts_as}
use Rattle.std.specs.Prelude.{◌/◌, Option, Result, Ok, Err}
use Rattle.refusals.specs.declared.Refusal.{Refusal}
use Rattle.refusals.specs.declared.Refusal.TheVariants.{Unreadable}
use Rattle.refusals.specs.Refused.{number}
use Rattle.refusals.proofs.Numbers.{number_positive}
use Rattle.dualrun_text.specs.declared.Request.{Request}
use Rattle.dualrun_text.specs.Request.{request_of, lu_line_refusal, eig_line_refusal}
use Rattle.dualrun_text.specs.Body.{Fits, most_floats, is_body, floats_from}
use Rattle.dualrun_text.specs.Lines.{refusal_line, pair_line, record_lines, order_line}
use Rattle.dualrun_text.specs.Output.{unreadable, unless_refused, lu_lines, lu_printed, eig_lines, eig_printed, lu_of_lines, eig_of_lines, lu_in_room, eig_in_room, lu_output, eig_output, output_for, output_of}

pub fits : (n : ℕ) → n ≤ largest.n → Fits n
fits n h = record { few = h; square = le_trans (mul-le-mul_left n h) (mul-le-mul_right largest.n h) }

take_replicate : {A : Type 0} (k n : ℕ) (x : A) → k ≤ n → take k (replicate n x) ≡ replicate k x
take_replicate zero n x h = refl
take_replicate (suc k) zero x h = absurd (omega arith)
take_replicate {A} (suc k) (suc n) x h = ap (λ (l : List A). x ∷ l) (take_replicate k n x (omega arith))

-- n is small where the first line is not refused
pub lu_few : (n : ℕ) → lu_line_refusal n ≡ 0 → n ≤ largest.n
lu_few n e = ltb-false largest.n n (passed (ltb largest.n n) 0 0 e).0

pub eig_few : (n limit : ℕ) → eig_line_refusal n limit ≡ 0 → n ≤ largest.n
eig_few n limit e = ltb-false largest.n n (passed (ltb largest.n n) 0 _ e).0

pub lu_fits : (n : ℕ) → 0 ≡ lu_line_refusal n → Fits n
lu_fits n e = fits n (lu_few n (sym e))

pub eig_fits : (n limit : ℕ) → 0 ≡ eig_line_refusal n limit → Fits n
eig_fits n limit e = fits n (eig_few n limit (sym e))

-- ---- what the first line decides, or not
refused_line : (e : Refusal) (k : ℕ) (lines : List ℕ) → number e ≡ k → pair_line (number e) 0 ≡ unless_refused k lines
refused_line e k lines g = ap (λ (j : ℕ). pair_line j 0) g ∙ ap (λ (b : Bool). cond b lines (pair_line k 0)) (sym (ne_eqb k 0 (λ z. omega (arith, number_positive e))))

not_refused : (k : ℕ) (lines : List ℕ) → k ≡ 0 → lines ≡ unless_refused k lines
not_refused k lines e = ap (λ (b : Bool). cond b lines (pair_line k 0)) (sym (eq-eqb k 0 e))

-- the matrices count only where it is not refused
pub unless_same : (k : ℕ) (x y : List ℕ) → (k ≡ 0 → x ≡ y) → unless_refused k x ≡ unless_refused k y
unless_same k x y h = by (eqb k 0) refl
  where
    by : (b : Bool) → eqb k 0 ≡ b → cond b x (pair_line k 0) ≡ cond b y (pair_line k 0)
    by true e = h (eqb-true k 0 e)
    by false e = refl

module _ (u v : Writer) (text : List ℕ) where
  module _ (n start : ℕ) where
    pub lu_line_refused : (e : Refusal) (k : ℕ) → k ≡ number e → number e ≡ lu_line_refusal n → Puts u v (pair_line k 0) → Puts u v (lu_output text n start)
    unfolding lu_output
    lu_line_refused e k is told f = puts_as f (ap (λ (j : ℕ). pair_line j 0) is ∙ refused_line e (lu_line_refusal n) _ told)

    pub lu_goes_on : 0 ≡ lu_line_refusal n → Puts u v (lu_in_room text n start) → Puts u v (lu_output text n start)
    unfolding lu_output
    lu_goes_on told f = puts_as f (not_refused (lu_line_refusal n) _ (sym told))

  module _ (n limit start : ℕ) where
    pub eig_line_refused : (e : Refusal) (k : ℕ) → k ≡ number e → number e ≡ eig_line_refusal n limit → Puts u v (pair_line k 0) → Puts u v (eig_output text n limit start)
    unfolding eig_output
    eig_line_refused e k is told f = puts_as f (ap (λ (j : ℕ). pair_line j 0) is ∙ refused_line e (eig_line_refusal n limit) _ told)

    pub eig_goes_on : 0 ≡ eig_line_refusal n limit → Puts u v (eig_in_room text n limit start) → Puts u v (eig_output text n limit start)
    unfolding eig_output
    eig_goes_on told f = puts_as f (not_refused (eig_line_refusal n limit) _ (sym told))

-- ---- the buffers: the first part of the largest
module _ (u v : Writer) (text : List ℕ) (n start : ℕ) (small : Fits n) where
  pub lu_in_room_lem : Puts u v (lu_of_lines text n start (take (n * n * 2) (replicate most_floats float.zero)) (take n (replicate largest.n 0))) → Puts u v (lu_in_room text n start)
  lu_in_room_lem f = puts_as f (λ i. lu_of_lines text n start (take_replicate (n * n * 2) most_floats float.zero (omega arith) i) (take_replicate n largest.n 0 small.few i))

  pub eig_in_room_lem : (limit : ℕ) → Puts u v (eig_of_lines text n limit start (take (n * 2) (replicate (largest.n * 2) float.zero)) (take (n * n * 2) (replicate most_floats float.zero))) → Puts u v (eig_in_room text n limit start)
  eig_in_room_lem limit f = puts_as f (λ i. eig_of_lines text n limit start (take_replicate (n * 2) (largest.n * 2) float.zero (omega arith) i) (take_replicate (n * n * 2) most_floats float.zero (omega arith) i))

-- ---- what is printed of an answer
-- records that fill a buffer
all_records : (l : List Float) (k : ℕ) → length l ≡ k * 2 → record_lines l (length l / 2) ≡ record_lines l k
all_records l k e = ap (record_lines l) (let h : length l / 2 ≡ k = omega arith in h)

module _ (n : ℕ) (factors : List Float) (order : List ℕ) (answer : Result ℕ LuRefusal) where
  pub lu_refused : (u v : Writer) (e : LuRefusal) (number column : ℕ) → answer ≡ Err e → number ≡ number_of (lu_outcome answer) → column ≡ lu_column answer
      → Puts u v (pair_line number column) → Puts u v (lu_lines n (lu_outcome answer) (lu_column answer) factors order)
  lu_refused u v e number column is f g h = puts_as h ((λ i. pair_line ((f ∙ ap (λ (r : Result ℕ LuRefusal). number_of (lu_outcome r)) is) i) ((g ∙ ap lu_column is) i)) ∙ printed e ∙ ap (λ (r : Result ℕ LuRefusal). lu_lines n (lu_outcome r) (lu_column r) factors order) (sym is))
    where
      printed : (e : LuRefusal) → pair_line (number_of (lu_outcome (Err e))) (lu_column (Err e)) ≡ lu_lines n (lu_outcome (Err e)) (lu_column (Err e)) factors order
      printed (lu.Refused r) = refl
      printed (lu.Singular c) = refl

  pub lu_done : (u v w x : Writer) (swaps : ℕ) → answer ≡ Ok swaps → length order ≡ n → length factors ≡ n * n * 2 → Puts u v (pair_line 0 swaps) → Puts v w (order_line order (length order)) → Puts w x (record_lines factors (length factors / 2))
      → Puts u x (lu_lines n (lu_outcome answer) (lu_column answer) factors order)
  lu_done u v w x swaps is size full f g h =
      puts_as (puts_then _ _ (puts_then _ _ f (puts_as g (ap (order_line order) size))) (puts_as h (all_records factors (n * n) full)))
      (ap (λ (r : Result ℕ LuRefusal). lu_lines n (lu_outcome r) (lu_column r) factors order) (sym is))

module _ (n : ℕ) (values vectors : List Float) (answer : Result ℕ Refusal) where
  pub eig_refused : (u v : Writer) (e : Refusal) (k : ℕ) → answer ≡ Err e → k ≡ number e → Puts u v (pair_line k 0) → Puts u v (eig_lines n (outcome answer) values vectors)
  eig_refused u v e k is f h = puts_as h (ap (λ (j : ℕ). pair_line j 0) f ∙ ap (λ (r : Result ℕ Refusal). eig_lines n (outcome r) values vectors) (sym is))

  pub eig_done : (u v w x : Writer) (sweeps : ℕ) → answer ≡ Ok sweeps → length values ≡ n * 2 → length vectors ≡ n * n * 2 → Puts u v (pair_line 0 sweeps) → Puts v w (record_lines values (length values / 2)) → Puts w x (record_lines vectors (length vectors / 2))
      → Puts u x (eig_lines n (outcome answer) values vectors)
  eig_done u v w x sweeps is row full f g h =
      puts_as (puts_then _ _ (puts_then _ _ f (puts_as g (all_records values n row))) (puts_as h (all_records vectors (n * n) full)))
      (ap (λ (r : Result ℕ Refusal). eig_lines n (outcome r) values vectors) (sym is))

-- ---- the lines of the matrix, good or not
module _ (u v : Writer) (text : List ℕ) (n start size : ℕ) (sized : size ≡ n * n * 2) where
  module _ (bad : is_body text start size ≡ false) where
    is_bad : is_body text start (n * n * 2) ≡ false
    is_bad = ap (is_body text start) (sym sized) ∙ bad

    pub lu_unread : (factors : List Float) (order : List ℕ) (e : Refusal) → e ≡ Unreadable → Puts u v (refusal_line (number e)) → Puts u v (lu_of_lines text n start factors order)
    unfolding lu_of_lines
    lu_unread factors order e is f = puts_as f (ap (λ (x : Refusal). refusal_line (number x)) is ∙ (let h : unreadable ≡ lu_of_lines text n start factors order = rw is_bad in h))

    pub eig_unread : (limit : ℕ) (values vectors : List Float) (e : Refusal) → e ≡ Unreadable → Puts u v (refusal_line (number e)) → Puts u v (eig_of_lines text n limit start values vectors)
    unfolding eig_of_lines
    eig_unread limit values vectors e is f = puts_as f (ap (λ (x : Refusal). refusal_line (number x)) is ∙ (let h : unreadable ≡ eig_of_lines text n limit start values vectors = rw is_bad in h))

  module _ (m : List Float) (good : is_body text start size ≡ true) (read : m ≡ floats_from text start size) where
    is_good : is_body text start (n * n * 2) ≡ true
    is_good = ap (is_body text start) (sym sized) ∙ good

    floats_are : m ≡ floats_from text start (n * n * 2)
    floats_are = read ∙ ap (floats_from text start) sized

    pub lu_read : (factors : List Float) (order : List ℕ) (left : LuLeft) → left ≡ lu_left dual_algebra dual_layout n m factors order → Puts u v (lu_printed n left) → Puts u v (lu_of_lines text n start factors order)
    unfolding lu_of_lines
    lu_read factors order left g f =
        puts_as f
        (ap (lu_printed n) (g ∙ ap (λ (x : List Float). lu_left dual_algebra dual_layout n x factors order) floats_are)
        ∙ (let h : lu_printed n (lu_left dual_algebra dual_layout n (floats_from text start (n * n * 2)) factors order) ≡ lu_of_lines text n start factors order = rw is_good in h))

    pub eig_read : (limit : ℕ) (values vectors : List Float) (left : JacobiLeft) → left ≡ jacobi_left dual_algebra dual_layout n m limit values vectors → Puts u v (eig_printed n left) → Puts u v (eig_of_lines text n limit start values vectors)
    unfolding eig_of_lines
    eig_read limit values vectors left g f =
        puts_as f
        (ap (eig_printed n) (g ∙ ap (λ (x : List Float). jacobi_left dual_algebra dual_layout n x limit values vectors) floats_are)
        ∙ (let h : eig_printed n (jacobi_left dual_algebra dual_layout n (floats_from text start (n * n * 2)) limit values vectors) ≡ eig_of_lines text n limit start values vectors = rw is_good in h))

-- ---- the request: what was asked, what the case is, and what was written for it
pub answered : (u v : Writer) (text : List ℕ) (q case : Option Request) → q ≡ request_of text → q ≡ case → Puts u v (output_for text case) → Puts u v (output_of text)
unfolding output_of
answered u v text q case asked e p = puts_as p (ap (output_for text) (sym e ∙ asked))
