-- LU with row pivoting over any record: the steps of `LU::new` in linalg.rs. Definitions only.
use Rattle.std.specs.Prelude.{ℕ, ◌+◌, ◌*◌, cond, List, eqb, get_or, set, Float}
use Rattle.std.specs.Float.Ieee.{lt, eq}
use Rattle.real.specs.Operations as float
use Rattle.real.specs.Sign.{abs_of}
use Rattle.algebra.specs.Algebra.{Algebra, zero_of, reals}
use Rattle.algebra.specs.Flat.{tabulate, real_parts}
use Rattle.algebra.specs.Loop.{upto}
use Rattle.matrices.specs.Matrix.{exchange, exchange_rows, cell, store}
use Rattle.matrices.specs.declared.Pivot.{Pivot}

-- where a run stands: the matrix, the order and the swaps so far; or the column in which no pivot exceeds zero
pub data Run (R : Type 0) : Type 0 where
  going : List R → List ℕ → ℕ → Run R
  singular : ℕ → Run R

-- row k with the real part x looked at: taken if |x| is strictly greater, so the first of equals stays and a NaN is never taken
unfoldable pub better : Float → ℕ → Pivot → Pivot
better x k b = let magnitude = abs_of x in cond (lt b.magnitude magnitude) (record { magnitude = magnitude; row = k }) b

-- if the pivot is zero the run ends at column i; else its row and row i are exchanged if they differ, whole and in the order, counting one swap
unfoldable pub bring_pivot : {B : Type 0} → B → ℕ → Pivot → ℕ → List B → List ℕ → ℕ → Run B
bring_pivot d k b i a p swaps =
    cond (eq b.magnitude float.zero)
    (singular i)
    (cond (eqb b.row i) (going a p swaps) (going (exchange_rows d k i b.row a) (exchange 0 i b.row p) (swaps + 1)))

-- the record `to`, less x times the record `from`: with the multiplier in hand
abbrev pub subtract_multiple : {R : Type 0} → Algebra R → ℕ → ℕ → R → List R → List R
subtract_multiple A to from x a = set a to (A.sub (get_or a to (zero_of A)) (A.mul x (get_or a from (zero_of A))))

-- 0, 1, .., n - 1
abbrev pub count_up : ℕ → List ℕ
count_up n = tabulate (λ k. k) n 0

module _ {R : Type 0} (A : Algebra R) (n : ℕ) where
  -- the first row from i on with the greatest |re| in column i, starting from zero
  unfoldable pub pivot_of : List R → ℕ → Pivot
  pivot_of a i = upto i n (λ k. better (A.re (cell A n a k i)) k) (record { magnitude = float.zero; row = i })

  -- a[(j, k)] = a[(j, k)] - a[(j, i)] * a[(i, k)]
  unfoldable pub subtract : ℕ → ℕ → ℕ → List R → List R
  subtract i j k a = store A n a j k (A.sub (cell A n a j k) (A.mul (cell A n a j i) (cell A n a i k)))

  -- for k in i + 1..n
  abbrev pub subtract_row : ℕ → ℕ → List R → List R
  subtract_row i j a = upto (i + 1) n (subtract i j) a

  -- a[(j, i)] = a[(j, i)] / a[(i, i)]; then the rest of the row
  unfoldable pub reduce_row : ℕ → ℕ → List R → List R
  reduce_row i j a = subtract_row i j (store A n a j i (A.div (cell A n a j i) (cell A n a i i)))

  -- for j in i + 1..n
  unfoldable pub reduce : ℕ → List R → List R
  reduce i a = upto (i + 1) n (reduce_row i) a

  -- the same of a run
  abbrev pub reduce_run : ℕ → Run R → Run R
  reduce_run i (going a p swaps) = going (reduce i a) p swaps
  reduce_run i (singular c) = singular c

  -- column i: the pivot, the exchange, the rows below
  unfoldable pub column : ℕ → Run R → Run R
  column i (going a p swaps) = reduce_run i (bring_pivot (zero_of A) n (pivot_of a i) i a p swaps)
  column i (singular c) = singular c

  -- for i in 0..n
  unfoldable pub lu_of : List R → Run R
  lu_of a = upto 0 n column (going a (count_up n) 0)

-- the pivot of column i brought up in flat floats, w a record: by the real parts, at n * w floats a row
abbrev pub bring_pivot_flat : ℕ → ℕ → ℕ → List Float → List ℕ → ℕ → Run Float
bring_pivot_flat w n i a p swaps = bring_pivot float.zero (n * w) (pivot_of reals n (real_parts w a) i) i a p swaps
