-- The inverse from factors and order over any record: the steps of `inverse` in linalg.rs. Definitions only.
use Rattle.std.specs.Prelude.{ℕ, ◌*◌, cond, List, eqb, get_or, replicate}
use Rattle.algebra.specs.Algebra.{Algebra, zero_of, one_of}
use Rattle.algebra.specs.Loop.{upto}
use Rattle.matrices.specs.Matrix.{store}
use Rattle.matrices.specs.Solve.{substitute}

module _ {R : Type 0} (A : Algebra R) (n : ℕ) (a : List R) (p : List ℕ) where
  -- if p[i] == j { one } else { zero }
  abbrev pub unit : ℕ → ℕ → R
  unit j i = cond (eqb (get_or p i 0) j) (one_of A) (zero_of A)

  -- column j
  unfoldable pub inverse_column : ℕ → List R → List R
  inverse_column j x = substitute A n a n j (unit j) x

  -- for j in 0..n
  unfoldable pub inverse_of : List R
  inverse_of = upto 0 n inverse_column (replicate (n * n) (zero_of A))

-- the starts of all columns at once: one at row i and column p[i], else zero
unfoldable pub units : {R : Type 0} → Algebra R → ℕ → List ℕ → List R
units A n p = upto 0 n (λ i x. store A n x i (get_or p i 0) (one_of A)) (replicate (n * n) (zero_of A))
