-- Solving with factors and order over any record: the steps of `solve` in linalg.rs, which are also those of one column of `inverse`. Definitions only.
use Rattle.std.specs.Prelude.{ℕ, ◌+◌, ◌-◌, ◌*◌, ◌≤◌, ◌<◌, List, length, get_or, set, replicate, Float}
use Rattle.algebra.specs.Algebra.{Algebra, zero_of}
use Rattle.algebra.specs.Flat.{tabulate}
use Rattle.algebra.specs.Loop.{upto}
use Rattle.matrices.specs.Matrix.{cell}

-- flat floats of records of w floats in which the vector's n elements lie, element i at record i * stride + base
pub record Strided (w n stride base : ℕ) (l : List Float) : Type 0 where
  pub some : 0 < stride
  pub inside : (i : ℕ) → i < n → (i * stride + base) * w + w ≤ length l

-- The vector x stands in a list, its element i at i * stride + base: all of the list (stride 1, base 0), or column j of a matrix (stride n, base j).
module _ {R : Type 0} (A : Algebra R) (n : ℕ) (a : List R) (stride base : ℕ) where
  -- x[i]
  abbrev pub element : List R → ℕ → R
  element x i = get_or x (i * stride + base) (zero_of A)

  -- x[i] = v
  abbrev pub assign : List R → ℕ → R → List R
  assign x i v = set x (i * stride + base) v

  -- v - a[(i, k)] * x[k]
  unfoldable pub less : ℕ → List R → ℕ → R → R
  less i x k v = A.sub v (A.mul (cell A n a i k) (element x k))

  -- for k in lo..hi
  abbrev pub less_row : ℕ → List R → ℕ → ℕ → R → R
  less_row i x lo hi v = upto lo hi (less i x) v

  -- x[i] = x[i] - a[(i, k)] * x[k]
  unfoldable pub eliminate : ℕ → ℕ → List R → List R
  eliminate i k x = assign x i (less i x k (element x i))

  -- x[i] = start; for k in 0..i
  unfoldable pub forward_row : (ℕ → R) → ℕ → List R → List R
  forward_row start i x = upto 0 i (eliminate i) (assign x i (start i))

  -- for i in 0..n
  unfoldable pub forward : (ℕ → R) → List R → List R
  forward start x = upto 0 n (forward_row start) x

  -- x[i] /= a[(i, i)]
  unfoldable pub divide : ℕ → List R → List R
  divide i x = assign x i (A.div (element x i) (cell A n a i i))

  -- for k in i + 1..n; then the quotient
  unfoldable pub back_row : ℕ → List R → List R
  back_row i x = divide i (upto (i + 1) n (eliminate i) x)

  -- for i in (0..n).rev()
  unfoldable pub back : List R → List R
  back x = upto 0 n (λ t. back_row (n - 1 - t)) x

  -- forward, then back
  unfoldable pub substitute : (ℕ → R) → List R → List R
  substitute start x = back (forward start x)

  -- the same from starts that stand in x already (proofs/Starts.antt)
  abbrev pub forward_row_from : ℕ → List R → List R
  forward_row_from i x = upto 0 i (eliminate i) x

  unfoldable pub forward_from : List R → List R
  forward_from x = upto 0 n forward_row_from x

  unfoldable pub substitute_from : List R → List R
  substitute_from x = back (forward_from x)

-- v - a[p] * x[q], by the places of the records
abbrev pub less_product : {R : Type 0} → Algebra R → R → List R → ℕ → List R → ℕ → R
less_product A v a p x q = A.sub v (A.mul (get_or a p (zero_of A)) (get_or x q (zero_of A)))

-- the starts of solve, all at once: x[i] = b[p[i]]
abbrev pub solve_starts : {R : Type 0} → Algebra R → ℕ → List ℕ → List R → List R
solve_starts A n p b = tabulate (λ i. get_or b (get_or p i 0) (zero_of A)) n 0

-- the solution for the right-hand side b: x[i] starts as b[p[i]]
unfoldable pub solve_of : {R : Type 0} → Algebra R → ℕ → List R → List ℕ → List R → List R
solve_of A n a p b = substitute A n a 1 0 (λ i. get_or b (get_or p i 0) (zero_of A)) (replicate n (zero_of A))
