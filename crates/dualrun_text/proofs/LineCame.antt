-- The first line has come, or not: a newline among the bytes passed, or as many bytes as the longest line has. Assumes nothing.
use Prim.Native.Nat.{ℕ, ◌<◌, ◌≤◌}
use mathlib.Core.Path.{◌≡◌, refl, sym, ap, ◌∙◌}
use mathlib.Core.Bool.{Bool, true, false, not, ◌||◌}
use mathlib.Core.List.{List}
use native.Mathlib.Omega.{arith}
use lib.Dec.{leb, eqb}
use lib.ListN.{length, get_or}
use borrow.Author.Tests.{le-leb, lt-leb, eq-eqb, eqb-true}
use Rattle.texts.specs.Bytes.{newline}
use Rattle.texts.specs.Digits.{byte_at, no_newline}
use Rattle.std.specs.List.{IsAnyAnswer}
use Rattle.texts.proofs.Every.{every_true, every_false}
use Rattle.dualrun_text.specs.Request.{longest_line}
use Rattle.dualrun_text.specs.Decided.{has_line}

module _ (t : List ℕ) where
  pub has_many : longest_line ≤ length t → true ≡ has_line t
  unfolding has_line
  has_many h = ap (λ (b : Bool). b || not (no_newline t)) (sym (le-leb longest_line (length t) h))

  pub has_newline : (k : ℕ) → k < length t → byte_at t k ≡ newline → true ≡ has_line t
  unfolding has_line no_newline
  has_newline k lt e =
      or_true (leb longest_line (length t))
      ∙ ap (λ (b : Bool). leb longest_line (length t) || not b) (sym (every_false (λ i. not (eqb (byte_at t i) newline)) (length t) k lt (ap not (eq-eqb (byte_at t k) newline e))))
    where
      or_true : (b : Bool) → true ≡ (b || true)
      or_true true = refl
      or_true false = refl

  -- by what the search for a newline says, where the bytes are fewer
  pub has_by : length t < longest_line → (r : Bool) → IsAnyAnswer (λ y b. eqb y newline ≡ b) t r → r ≡ has_line t
  unfolding has_line no_newline
  has_by few true said = has_newline said.0 said.1 (eqb-true (get_or t said.0 0) newline (said.2 0))
  has_by few false said = none few (λ k lt. ap not (said k 0 (omega arith) lt))
    where
      none : length t < longest_line → ((k : ℕ) → k < length t → not (eqb (byte_at t k) newline) ≡ true) → false ≡ has_line t
      none h all = (λ k. sym (lt-leb longest_line (length t) h) k || not (sym (every_true (λ j. not (eqb (byte_at t j) newline)) (length t) all) k))
