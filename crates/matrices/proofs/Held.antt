-- A record at a place of a matrix or of a vector is one of those that the floats hold. Over any record. Assumes nothing.
use Prim.Native.Nat.{ℕ, ◌+◌, ◌*◌, ◌≤◌, ◌<◌}
use mathlib.Core.Path.{◌≡◌, ◌∙◌}
use mathlib.Core.List.{List}
use native.Mathlib.Nat.{mul-le-mul_right}
use native.Mathlib.Omega.{arith}
use lib.ListN.{length}
use lib.Ieee.{Float}
use Rattle.algebra.specs.Algebra.{Algebra}
use Rattle.algebra.specs.Flat.{Layout, decode}
use Rattle.algebra.proofs.Cells.{held, holds}
use Rattle.algebra.proofs.Laws.{Laws}
use Rattle.matrices.specs.Matrix.{Square, RowPlace}
use Rattle.matrices.specs.Solve.{Strided}
use Rattle.matrices.proofs.Places.{inside}

module _ {R : Type 0} {A : Algebra R} {L : Layout R} (Q : Laws A L) where
  -- of a row, in floats of the same length
  pub row_held : (n i k : ℕ) (l l' : List Float) → RowPlace L.width n i l → length l' ≡ length l → k < n → i * n + k < length (decode L l')
  row_held n i k l l' r e h =
      let m : (i * n + k + 1) * L.width ≤ (i * n + n) * L.width = mul-le-mul_right L.width (omega arith) in
      held Q l' (i * n + k) (omega (arith, r.whole))

  -- of a square matrix
  pub square_held : (n i k : ℕ) (l : List Float) → Square L.width n l → i < n → k < n → i * n + k < length (decode L l)
  square_held n i k l s hi hk = held Q l (i * n + k) (inside L.width n i k l s hi hk).there

  -- of a vector, by where its elements lie: `at` is the place as the code has it
  pub strided_held : (n stride base i at : ℕ) (l : List Float) → Strided L.width n stride base l → i < n → at ≡ i * stride + base → at < length (decode L l)
  strided_held n stride base i at l s h e = rw e (held Q l (i * stride + base) (s.inside i h))

  -- of a vector that is all of the floats
  pub vector_held : (n k : ℕ) (l l' : List Float) → length l ≡ n * L.width → length l' ≡ length l → k < n → k < length (decode L l')
  vector_held n k l l' e f h = omega (arith, holds Q l' n (f ∙ e))
