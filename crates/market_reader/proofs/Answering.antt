-- What the reader leaves, way by way, over what its inner functions tell. Assumes nothing.
use Prim.Native.Nat.{ℕ, ◌*◌}
use mathlib.Core.Path.{◌≡◌, ap, ◌∙◌}
use mathlib.Core.Bool.{Bool}
use mathlib.Core.List.{List}
use lib.ListN.{length}
use lib.Ieee.{Float}
use borrow.Author.Tests.{eq-eqb, ne_eqb}
use Rattle.refusals.specs.Number as refusal
use Rattle.algebra.specs.Outcome.{Outcome, value, refused, map_outcome}
use Rattle.market.specs.Answers.{Left, answered}
use Rattle.market.specs.Format.{count_of}
use Rattle.market.specs.Head.{Opened, opened, head_of, size_of}
use Rattle.market.specs.Entries.{numbers_of, matrix_of}
use Rattle.market.specs.Read.{read_numbers, read_body, read_opened, read_left}

-- ---- the entries into the lent floats
module _ (w : ℕ) (out : List Float) (s : Bool) (n : ℕ) (rest : List ℕ) where
  pub read_length : (length out ≡ n * n * w → ⊥) → answered (refused refusal.wrong_length) out ≡ read_body w out s n rest
  unfolding read_body
  read_length h = rw (ne_eqb (length out) (n * n * w) h)

  module _ (m : ℕ) (size : length out ≡ n * n * w) (many : m ≡ count_of s n) where
    by_numbers : (x : Outcome (List Float)) → x ≡ numbers_of m rest → read_numbers w out s n x ≡ read_body w out s n rest
    unfolding read_body
    by_numbers x told = rw (eq-eqb (length out) (n * n * w) size, ← many, ← told)

    pub read_fault : (number : ℕ) → refused number ≡ numbers_of m rest → answered (refused number) out ≡ read_body w out s n rest
    read_fault number told = by_numbers (refused number) told

    pub read_good : (l left : List Float) → value l ≡ numbers_of m rest → left ≡ matrix_of w s n l → answered (value n) left ≡ read_body w out s n rest
    read_good l left told e = ap (answered (value n)) e ∙ by_numbers (value l) told

-- ---- the head decides
module _ (text : List ℕ) where
  pub size_known : (n : ℕ) (s : Bool) (rest : List ℕ) → value (opened n s rest) ≡ head_of text → value n ≡ size_of text
  unfolding size_of
  size_known n s rest told = ap {B = Outcome ℕ} (λ (x : Outcome Opened). map_outcome (λ (y : Opened). y.n) x) told

  pub size_refused : (number : ℕ) → refused number ≡ head_of text → refused number ≡ size_of text
  unfolding size_of
  size_refused number told = ap {B = Outcome ℕ} (λ (x : Outcome Opened). map_outcome (λ (y : Opened). y.n) x) told

  module _ (w : ℕ) (out : List Float) where
    pub read_refused : (number : ℕ) → refused number ≡ head_of text → answered (refused number) out ≡ read_left w text out
    unfolding read_left
    read_refused number told = ap (read_opened w out) told

    pub read_known : (n : ℕ) (s : Bool) (rest : List ℕ) (l : Left Float) → value (opened n s rest) ≡ head_of text → l ≡ read_body w out s n rest → l ≡ read_left w text out
    unfolding read_left
    read_known n s rest l told e = e ∙ ap (read_opened w out) told
