-- The lines of all entries are those of the list of the entries, and each is a tidy line of the format. Assumes nothing.
use Prim.Native.Nat.{ℕ, zero, suc, ◌+◌, ◌*◌, ◌<◌}
use mathlib.Core.Path.{◌≡◌, sym, ap, ◌∙◌, subst}
use mathlib.Core.Bool.{Bool, true, cond}
use mathlib.Core.List.{List, [], ◌∷◌, ◌++◌, map, append_assoc, append-nil}
use native.Mathlib.Omega.{arith}
use lib.ListN.{length, get_or}
use lib.Ieee.{Float, lt}
use Rattle.real.specs.Operations as float
use Rattle.algebra.specs.Flat.{tabulate}
use Rattle.texts.specs.Bytes as byte
use Rattle.texts.specs.Numbers.{decimal_text}
use Rattle.texts.specs.Whole.{worth}
use Rattle.market.specs.Format.{Entries, sign, signed}
use Rattle.market.specs.Format.Entries.{none, entry}
use Rattle.market.specs.Text.{magnitude, whole_part, is_whole, number_line, line_of, entry_at, lines_of}
use Rattle.market.proofs.WholeFloats.{back_of, whole_small}
use Rattle.market.proofs.Zeros.{minus_some}
use Rattle.market.proofs.Decimals.{decimal_digits, decimal_worth}
use Rattle.market.proofs.DecimalsBack.{decimal_tidy}
use Rattle.market.proofs.Lines.{number_shape}

-- the lines of some floats
abbrev pub lines_each : List Float → List ℕ
lines_each [] = []
lines_each (x ∷ l) = line_of x ++ lines_each l

-- the entries of a matrix, column by column
abbrev pub entries_of : ℕ → ℕ → List Float → List Float
entries_of w n a = tabulate (entry_at w n a) (n * n) 0

module _ (w n : ℕ) (a : List Float) where
  lines_more : (d j : ℕ) → lines_of w n a j ++ lines_each (tabulate (entry_at w n a) d j) ≡ lines_of w n a (j + d)
  unfolding lines_of tabulate
  lines_more zero j = append-nil (lines_of w n a j) ∙ ap (lines_of w n a) (let z : j ≡ j + 0 = omega arith in z)
  lines_more (suc d) j =
      sym (append_assoc (lines_of w n a j) (line_of (entry_at w n a j)) (lines_each (tabulate (entry_at w n a) d (suc j))))
      ∙ lines_more d (suc j)
      ∙ ap (lines_of w n a) (let z : suc j + d ≡ j + suc d = omega arith in z)

  pub lines_each_lem : lines_of w n a (n * n) ≡ lines_each (entries_of w n a)
  unfolding lines_of
  lines_each_lem = sym (lines_more (n * n) 0 ∙ ap (lines_of w n a) (let z : 0 + n * n ≡ n * n = omega arith in z))

-- ---- tidy lines
line_shape : (x : Float) (r : List ℕ) → is_whole x ≡ true → line_of x ++ r ≡ sign (lt x float.zero) ++ (decimal_text (whole_part (magnitude x)) ++ (byte.newline ∷ r))
unfolding line_of
line_shape x r e =
    ap (λ (t : Bool). cond t (number_line (lt x float.zero) (whole_part (magnitude x))) [] ++ r) e
    ∙ number_shape (lt x float.zero) (whole_part (magnitude x)) r

line_tidy : (x : Float) (r : List ℕ) (numbers : List Float) → is_whole x ≡ true → Entries true r numbers → Entries true (line_of x ++ r) (back_of x ∷ numbers)
line_tidy x r numbers e more =
    let v = whole_part (magnitude x) in
    let small = whole_small x e in
    let same : worth 0 (decimal_text v) ≡ v = decimal_worth v small in
    subst (λ (t : List ℕ). Entries true t (back_of x ∷ numbers)) (sym (line_shape x r e))
    (subst (λ (u : ℕ). Entries true (sign (lt x float.zero) ++ (decimal_text v ++ (byte.newline ∷ r))) (signed (lt x float.zero) u ∷ numbers)) same
    (entry (lt x float.zero) (decimal_text v) r numbers (decimal_digits v) (omega arith) (λ q. decimal_tidy v small) (λ q minus. omega (arith, minus_some x e minus)) more))

pub each_tidy : (l : List Float) → ((k : ℕ) → k < length l → is_whole (get_or l k float.zero) ≡ true) → Entries true (lines_each l) (map back_of l)
each_tidy [] h = none
each_tidy (x ∷ l) h = line_tidy x (lines_each l) (map back_of l) (h 0 (omega arith)) (each_tidy l (λ k g. h (suc k) (omega arith)))
