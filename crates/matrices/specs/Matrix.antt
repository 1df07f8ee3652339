-- A matrix of n by n records as the list of its records, row by row, and as flat floats. Definitions only.
use Rattle.std.specs.Prelude.{ℕ, ◌+◌, ◌*◌, ◌≤◌, ◌<◌, ◌≡◌, List, get_or, set, length, Float}
use Rattle.refusals.specs.Largest as largest
use Rattle.algebra.specs.Algebra.{Algebra, zero_of}
use Rattle.algebra.specs.Loop.{upto}

-- flat floats that hold n by n records of w floats each, n at most the largest
pub record Square (w n : ℕ) (l : List Float) : Type 0 where
  pub small : n ≤ largest.n
  pub some : 0 < w
  pub narrow : w ≤ largest.width
  pub full : length l ≡ n * n * w

-- one of its rows: row i, whole in the floats
pub record RowPlace (w n i : ℕ) (l : List Float) : Type 0 where
  pub small : n ≤ largest.n
  pub below : i < n
  pub start : i * n ≤ largest.n * largest.n
  pub whole : (i * n + n) * w ≤ length l

-- the elements at p and q exchanged (d stands for what is not there)
unfoldable pub exchange : {B : Type 0} → B → ℕ → ℕ → List B → List B
exchange d p q l = set (set l p (get_or l q d)) q (get_or l p d)

-- the rows p and q exchanged, element by element, at k elements a row
unfoldable pub exchange_rows : {B : Type 0} → B → ℕ → ℕ → ℕ → List B → List B
exchange_rows d k p q l = upto 0 k (λ c. exchange d (p * k + c) (q * k + c)) l

module _ {R : Type 0} (A : Algebra R) (n : ℕ) where
  -- a[(r, c)]
  unfoldable pub cell : List R → ℕ → ℕ → R
  cell a r c = get_or a (r * n + c) (zero_of A)

  -- a[(r, c)] = v
  unfoldable pub store : List R → ℕ → ℕ → R → List R
  store a r c v = set a (r * n + c) v
