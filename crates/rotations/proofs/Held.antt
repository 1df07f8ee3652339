-- The records of a matrix and of a vector are held by their floats. Assumes nothing.
use Prim.Native.Nat.{ℕ, ◌+◌, ◌*◌, ◌≤◌, ◌<◌}
use mathlib.Core.List.{List}
use native.Mathlib.Omega.{arith}
use lib.ListN.{length}
use lib.Ieee.{Float}
use Rattle.refusals.specs.Largest as largest
use Rattle.algebra.proofs.Cells.{held, holds}
use Rattle.dual.specs.Laws.{dual_laws}
use Rattle.dual.specs.Rules.{dual_records}
use Rattle.matrices.specs.Matrix.{Square}
use Rattle.rotations.specs.Vector.{Vector}
use Rattle.matrices.proofs.Places.{inside}

-- the place of a row, and of a record in it, is no large number
pub row_few : (n r c : ℕ) (l : List Float) → Square 2 n l → r < n → c < n → r * n ≤ largest.n * largest.n
row_few n r c l s hr hc = (inside 2 n r c l s hr hc).row

-- the record at row r, column c
pub cell_held : (n r c : ℕ) (l : List Float) → Square 2 n l → r < n → c < n → r * n + c < length (dual_records l)
cell_held n r c l s hr hc = held dual_laws l (r * n + c) (inside 2 n r c l s hr hc).there

-- record p of a vector
pub value_held : (n p : ℕ) (l : List Float) → Vector n l → p < n → p < length (dual_records l)
value_held n p l v h = omega (arith, holds dual_laws l n v.full)
