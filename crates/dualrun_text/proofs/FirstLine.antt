-- The first line, step by step. Assumes nothing.
use Prim.Native.Nat.{ℕ, ◌+◌, ◌≤◌}
use mathlib.Core.Path.{◌≡◌, sym, ap, ◌∙◌}
use mathlib.Core.Bool.{Bool, true, false, cond}
use mathlib.Core.List.{List}
use native.Mathlib.Omega.{arith}
use lib.Dec.{eqb}
use lib.ListN.{length}
use Rattle.std.specs.Prelude.{Option, Some, None}
use Rattle.texts.specs.declared.Number.{Number}
use Rattle.texts.specs.Digits.{byte_at, starts_with}
use Rattle.texts.specs.Numbers.{number_from}
use Rattle.texts.proofs.Every.{read_same, read_other}
use Rattle.texts.proofs.Numbers.{number_end}
use Rattle.dualrun_text.specs.declared.Request.{Request}
use Rattle.dualrun_text.specs.Request.{number_digits, longest_line, after, number_then, lu_line, eig_line, lu_word, eig_word, request_of}

-- ---- a number and the byte behind it
module _ (text : List ℕ) (p wanted : ℕ) (f : ℕ → ℕ → Option Request) (m : Option Number) (read : m ≡ number_from number_digits text p) where
  pub then_not : m ≡ None → None ≡ number_then text p wanted f
  unfolding number_then
  then_not e = ap (after text wanted f) (sym e ∙ read)

  module _ (n : Number) (b : ℕ) (is : m ≡ Some n) (at : b ≡ byte_at text n.end) where
    by_byte : (t : Bool) → eqb (byte_at text n.end) wanted ≡ t → cond t (f n.value (n.end + 1)) None ≡ number_then text p wanted f
    unfolding number_then
    by_byte t e = ap (λ (x : Bool). cond x (f n.value (n.end + 1)) None) (sym e) ∙ ap (after text wanted f) (sym is ∙ read)

    pub then_other : (b ≡ wanted → ⊥) → None ≡ number_then text p wanted f
    then_other h = by_byte false (read_other b _ wanted at h)

    pub then_is : (r : Option Request) → b ≡ wanted → r ≡ f n.value (n.end + 1) → r ≡ number_then text p wanted f
    then_is r h e = e ∙ by_byte true (read_same b _ wanted at h)

-- the place after that byte
module _ (text : List ℕ) (p : ℕ) (n : Number) (m : Option Number) (is : m ≡ Some n) (read : m ≡ number_from number_digits text p) where
  pub place_early : p ≤ length eig_word → n.end + 1 ≤ longest_line
  place_early h = omega (arith, number_end number_digits text p n (sym read ∙ is))

-- ---- the line by its first word
module _ (text : List ℕ) (lu : Bool) (tested : lu ≡ starts_with lu_word text) where
  pub request_lu : (r : Option Request) → lu ≡ true → r ≡ lu_line text → r ≡ request_of text
  unfolding request_of
  request_lu r e g = g ∙ ap (λ (t : Bool). cond t (lu_line text) (cond (starts_with eig_word text) (eig_line text) None)) (sym e ∙ tested)

  module _ (eig : Bool) (tested-next : eig ≡ starts_with eig_word text) (not-lu : lu ≡ false) where
    by_eig : (t : Bool) → eig ≡ t → cond t (eig_line text) None ≡ request_of text
    unfolding request_of
    by_eig t e =
        ap (λ (x : Bool). cond x (eig_line text) None) (sym e ∙ tested-next)
        ∙ ap (λ (x : Bool). cond x (lu_line text) (cond (starts_with eig_word text) (eig_line text) None)) (sym not-lu ∙ tested)

    pub request_eig : (r : Option Request) → eig ≡ true → r ≡ eig_line text → r ≡ request_of text
    request_eig r e g = g ∙ by_eig true e

    pub request_other : eig ≡ false → None ≡ request_of text
    request_other e = by_eig false e
