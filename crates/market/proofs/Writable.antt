-- What the test of a matrix that can be written says of each of its floats. Assumes nothing.
use Prim.Native.Nat.{ℕ, ◌+◌, ◌*◌, ◌%◌, ◌<◌}
use mathlib.Core.Path.{◌≡◌, sym, ap, ◌∙◌}
use mathlib.Core.Bool.{Bool, true, cond}
use mathlib.Core.List.{List}
use native.Mathlib.Omega.{arith}
use lib.ListN.{length, get_or}
use lib.Ieee.{Float, eq}
use borrow.Author.Tests.{eq-eqb, ne_eqb}
use Rattle.real.specs.Operations as float
use Rattle.algebra.proofs.Flat.{tabulate_length, tabulate_at}
use Rattle.texts.proofs.Every.{every_at}
use Rattle.market.specs.Text.{is_whole, entry_at, fits_at, is_writable}
use Rattle.market.proofs.Places.{turned, turned_inside, first_rest, first_inside}
use Rattle.market.proofs.EntryLines.{entries_of}

module _ (w n : ℕ) (a : List Float) (positive : 0 < w) (size : length a ≡ n * n * w) (good : is_writable w a ≡ true) where
  fits_each : (j : ℕ) → j < n * n * w → fits_at w a j ≡ true
  unfolding is_writable
  fits_each j h = every_at (fits_at w a) (length a) j good (omega arith)

  pub real_whole : (j : ℕ) → j < n * n * w → j % w ≡ 0 → is_whole (get_or a j float.zero) ≡ true
  unfolding fits_at
  real_whole j h e = ap (λ (t : Bool). cond t (is_whole (get_or a j float.zero)) (eq (get_or a j float.zero) float.zero)) (sym (eq-eqb (j % w) 0 e)) ∙ fits_each j h

  pub other_zero : (j : ℕ) → j < n * n * w → (j % w ≡ 0 → ⊥) → eq (get_or a j float.zero) float.zero ≡ true
  unfolding fits_at
  other_zero j h e = ap (λ (t : Bool). cond t (is_whole (get_or a j float.zero)) (eq (get_or a j float.zero) float.zero)) (sym (ne_eqb (j % w) 0 e)) ∙ fits_each j h

  entry_whole : (k : ℕ) → k < n * n → is_whole (entry_at w n a k) ≡ true
  unfolding entry_at
  entry_whole k h = real_whole (turned n k * w) (first_inside w positive (turned n k) (n * n) (turned_inside n k h)) (first_rest w positive (turned n k))

  pub entries_whole : (k : ℕ) → k < length (entries_of w n a) → is_whole (get_or (entries_of w n a) k float.zero) ≡ true
  entries_whole k h =
      let g : k < n * n = omega (arith, tabulate_length (entry_at w n a) (n * n) 0) in
      ap is_whole (tabulate_at (entry_at w n a) (n * n) 0 k float.zero g)
      ∙ ap (λ (i : ℕ). is_whole (entry_at w n a i)) (let z : 0 + k ≡ k = omega arith in z)
      ∙ entry_whole k g
