-- The determinant from factors and swap count over any record, as `determinant` in linalg.rs. Definitions only.
use Rattle.std.specs.Prelude.{ℕ, cond, List}
use Rattle.algebra.specs.Algebra.{Algebra, one_of}
use Rattle.algebra.specs.Loop.{upto}
use Rattle.matrices.specs.Matrix.{cell}
use Rattle.orders.specs.Order.{is_odd}

-- negated where the count is odd
abbrev pub signed : {R : Type 0} → Algebra R → ℕ → R → R
signed A swaps x = cond (is_odd swaps) (A.neg x) x

module _ {R : Type 0} (A : Algebra R) (n : ℕ) where
  -- the Product of the diagonal: from one, left to right
  unfoldable pub diagonal_product : List R → R
  diagonal_product a = upto 0 n (λ i x. A.mul x (cell A n a i i)) (one_of A)

  -- with its sign
  unfoldable pub determinant_of : List R → ℕ → R
  determinant_of a swaps = signed A swaps (diagonal_product a)
