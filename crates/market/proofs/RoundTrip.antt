-- The round trip: what was written is tidy, and reading it gives the matrix, -0 becoming +0, for every matrix that can be written. Assumes nothing.
use Prim.Native.Nat.{ℕ, ◌+◌, ◌-◌, ◌*◌, ◌%◌, ◌<◌, ◌≤◌}
use mathlib.Core.Path.{◌≡◌, refl, sym, ap, ◌∙◌, subst}
use mathlib.Core.Bool.{Bool, true, false, cond, ◌&&◌}
use mathlib.Core.List.{List, map}
use native.Mathlib.Decide.{ℕ_discrete}
use native.Mathlib.Omega.{arith}
use lib.Dec.{T, eqb, ltb}
use lib.ListN.{length, get_or, take, replicate}
use lib.Seq.{take-append_seam}
use lib.Ieee.{Float, binary64, eq, fits}
use borrow.Author.Tests.{ltb-false, eqb-true, eq-eqb, ne_eqb}
use Rattle.refusals.specs.Largest as largest
use Rattle.refusals.specs.Number as refusal
use Rattle.real.specs.Operations as float
use Rattle.algebra.specs.Outcome.{Outcome, value, refused, number_of}
use Rattle.algebra.specs.Flat.{tabulate}
use Rattle.algebra.proofs.Flat.{tabulate_length, tabulate_at}
use Rattle.texts.proofs.Every.{both_true}
use Rattle.market.specs.Answers.{Left, answered}
use Rattle.market.specs.Format.{Market}
use Rattle.market.specs.Read.{read_left}
use Rattle.market.specs.Text.{text_of, is_writable}
use Rattle.market.specs.Write.{page, write_text, write_left}
use Rattle.market.proofs.Fronts.{wrong}
use Rattle.market.proofs.Refusals.{done}
use Rattle.market.proofs.Buffers.{write_numbered}
use Rattle.market.proofs.WholeFloats.{back_of}
use Rattle.market.proofs.Zeros.{plus_zero, back_is}
use Rattle.market.proofs.EntryLines.{entries_of}
use Rattle.market.proofs.WritesFormat.{written_market}
use Rattle.market.proofs.Writable.{real_whole, other_zero}
use Rattle.market.proofs.MatrixBack.{back_at, read_back}

module _ (w n : ℕ) (a : List Float) where
  -- each float of the matrix, -0 as +0
  abbrev pub plain : List Float
  plain = tabulate (λ j. plus_zero (get_or a j float.zero)) (n * n * w) 0

  module _ (positive : 0 < w) (size : length a ≡ n * n * w) (good : is_writable w a ≡ true) (machine : (j : ℕ) → j < n * n * w → T (fits binary64 (get_or a j float.zero))) where
    plain_at : (j : ℕ) → j < n * n * w → back_at w n a positive size good j ≡ plus_zero (get_or a j float.zero)
    unfolding plus_zero
    plain_at j h = by (ℕ_discrete (j % w) 0)
      where
        by : Dec (j % w ≡ 0) → cond (eqb (j % w) 0) (back_of (get_or a j float.zero)) float.zero ≡ cond (eq (get_or a j float.zero) float.zero) float.zero (get_or a j float.zero)
        by (yes e) =
            ap (λ (t : Bool). cond t (back_of (get_or a j float.zero)) float.zero) (eq-eqb (j % w) 0 e)
            ∙ back_is (get_or a j float.zero) (machine j h) (real_whole w n a positive size good j h e)
        by (no e) =
            ap (λ (t : Bool). cond t (back_of (get_or a j float.zero)) float.zero) (ne_eqb (j % w) 0 e)
            ∙ ap (λ (t : Bool). cond t float.zero (get_or a j float.zero)) (sym (other_zero w n a positive size good j h e))

    -- of the text itself
    pub text_back : (out : List Float) → n ≤ largest.n → length out ≡ n * n * w → read_left w (text_of w n a) out ≡ answered (value n) plain
    text_back out few room =
        let at : ℕ → Float = λ j. plus_zero (get_or a j float.zero) in
        read_back w n a positive size good plain out few room (tabulate_length at (n * n * w) 0)
        (λ j h. plain_at j h ∙ ap at (let z : j ≡ 0 + j = omega arith in z) ∙ sym (tabulate_at at (n * n * w) 0 j float.zero h))

  -- what a call of the writer that was not refused says
  pub record Says (m : ℕ) (left : List ℕ) : Type 0 where
    pub few : n ≤ largest.n
    pub size : length a ≡ n * n * w
    pub good : is_writable w a ≡ true
    pub front : take m left ≡ text_of w n a

  says_by : (text left : List ℕ) (m : ℕ) (large lengths can : Bool) → ltb largest.n n ≡ large → (eqb (length a) (n * n * w) && eqb (length text) page) ≡ lengths → is_writable w a ≡ can
      → cond large (answered (refused refusal.too_large) text) (cond lengths (cond can (write_text (text_of w n a)) (answered (refused refusal.unwritable) text)) (answered (refused refusal.wrong_length) text)) ≡ answered (value m) left
      → Says m left
  unfolding write_text
  says_by text left m true lengths can p q r e = absurd (wrong refusal.too_large m (ap (λ (l : Left ℕ). l.answer) e))
  says_by text left m false false can p q r e = absurd (wrong refusal.wrong_length m (ap (λ (l : Left ℕ). l.answer) e))
  says_by text left m false true false p q r e = absurd (wrong refusal.unwritable m (ap (λ (l : Left ℕ). l.answer) e))
  says_by text left m false true true p q r e = record {
    few = ltb-false largest.n n p;
    size = eqb-true (length a) (n * n * w) (both_true (eqb (length a) (n * n * w)) (eqb (length text) page) q).0;
    good = r;
    front =
        let v : ◌≡◌ {A = Outcome ℕ} (value (length (text_of w n a))) (value m) = ap (λ (l : Left ℕ). l.answer) e in
        let k : length (text_of w n a) ≡ m = cc in
        (λ i. take (sym k i) (ap (λ (l : Left ℕ). l.buffer) (sym e) i)) ∙ take-append_seam (text_of w n a) (replicate (page - length (text_of w n a)) 0);
  }

  said : (text left : List ℕ) (m : ℕ) → write_left w n a text ≡ answered (value m) left → Says m left
  unfolding write_left
  said text left m e = says_by text left m (ltb largest.n n) (eqb (length a) (n * n * w) && eqb (length text) page) (is_writable w a) refl refl refl e

  -- an answer that has the number 0 tells a length
  pub told_length : (text : List ℕ) → number_of (write_left w n a text).answer ≡ 0 → (m : ℕ) × (write_left w n a text ≡ answered (value m) (write_left w n a text).buffer)
  told_length text e =
      let left = write_left w n a text in
      let told = done left.answer (write_numbered w n a text) e in
      (told.0, ap (λ (o : Outcome ℕ). answered o left.buffer) told.1)

  -- Whatever the writer was lent: if it answers with a length m, the first m bytes that it leaves are a tidy text of the format,
  pub write_market : (text left : List ℕ) (m : ℕ) → 0 < w → write_left w n a text ≡ answered (value m) left → Market true false n (map back_of (entries_of w n a)) (take m left)
  write_market text left m positive e =
      let s = said text left m e in
      subst (Market true false n (map back_of (entries_of w n a))) (sym s.front) (written_market w n a positive s.size s.good s.few)

  -- and are read to the matrix, -0 as +0.
  pub round_trip : (text left : List ℕ) (m : ℕ) (out : List Float) → 0 < w → ((j : ℕ) → j < n * n * w → T (fits binary64 (get_or a j float.zero))) → write_left w n a text ≡ answered (value m) left → length out ≡ n * n * w
      → read_left w (take m left) out ≡ answered (value n) plain
  round_trip text left m out positive machine e room =
      let s = said text left m e in
      ap (λ (t : List ℕ). read_left w t out) s.front ∙ text_back positive s.size s.good machine out s.few room
