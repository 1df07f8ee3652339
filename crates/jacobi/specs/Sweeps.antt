-- The sweeps of Jacobi over any record: the threshold, every entry above the diagonal, the sums, up to the limit. The outer loop of `jacobi_eigenvalue` in linalg.rs. Definitions only.
use Rattle.std.specs.Prelude.{ℕ, ◌+◌, ◌*◌, cond, List, set, replicate, pos, Float}
use Rattle.std.specs.Float.{binary64}
use Rattle.std.specs.Float.Ieee.{eq, of_int}
use Rattle.real.specs.Operations as float
use Rattle.real.specs.Operations.{◌⊕◌, ◌⊗◌, ◌⊘◌}
use Rattle.real.specs.Root.{sqrt_of}
use Rattle.algebra.specs.Algebra.{Algebra, zero_of, one_of}
use Rattle.algebra.specs.Loop.{upto}
use Rattle.matrices.specs.Matrix.{cell, store}
use Rattle.rotations.specs.Rotation.{Work, work, item, pair}

-- where a run stands: the work, the sums bw and the sweeps so far; or the work and the sweeps at the zero threshold that settled it
pub data Run (R : Type 0) : Type 0 where
  going : Work R → List R → ℕ → Run R
  settled : Work R → ℕ → Run R

module _ {R : Type 0} (A : Algebra R) (n : ℕ) where
  -- thresh += a[(i, j)].re().powi(2), one multiplication
  unfoldable pub add_square : List R → ℕ → ℕ → Float → Float
  add_square a j i thresh = let x = A.re (cell A n a i j) in thresh ⊕ x ⊗ x

  -- for i in 0..j
  unfoldable pub column_squares : List R → ℕ → Float → Float
  column_squares a j thresh = upto 0 j (add_square a j) thresh

  -- for j in 0..n
  unfoldable pub sum_of_squares : List R → Float
  sum_of_squares a = upto 0 n (column_squares a) float.zero

  -- the root over n
  unfoldable pub threshold_of : List R → Float
  threshold_of a = sqrt_of (sum_of_squares a) ⊘ of_int binary64 (pos n)

  -- for q in p + 1..n
  unfoldable pub row : Float → ℕ → ℕ → Work R → Work R
  row thresh it-num p w = upto (p + 1) n (pair A n thresh it-num p) w

  -- for p in 0..n
  unfoldable pub sweep : Float → ℕ → Work R → Work R
  sweep thresh it-num w = upto 0 n (row thresh it-num) w

  -- bw[i] += zw[i]
  unfoldable pub add_item : List R → ℕ → List R → List R
  add_item zw i bw = set bw i (A.add (item A bw i) (item A zw i))

  -- bw += zw
  unfoldable pub add_all : List R → List R → List R
  add_all zw bw = upto 0 n (add_item zw) bw

  -- a sweep's end: bw += zw; d = bw; zw = 0; one sweep more
  unfoldable pub close_sweep : List R → ℕ → Work R → Run R
  close_sweep bw sweeps w =
      let sums = add_all w.zw bw in
      going (work w.a w.v sums (replicate n (zero_of A)) w.rotations) sums (sweeps + 1)

  -- sweep it_num: a zero threshold ends the run
  unfoldable pub step : ℕ → Run R → Run R
  step it-num (settled w sweeps) = settled w sweeps
  step it-num (going w bw sweeps) =
      let thresh = threshold_of w.a in
      cond (eq thresh float.zero) (settled w sweeps) (close_sweep bw sweeps (sweep thresh it-num w))

  -- v[(i, i)] = 1
  unfoldable pub put_one : ℕ → List R → List R
  put_one i v = store A n v i i (one_of A)

  -- the identity matrix
  unfoldable pub identity : List R
  identity = upto 0 n put_one (replicate (n * n) (zero_of A))

  -- d[i] = a[(i, i)]
  unfoldable pub put_diagonal : List R → ℕ → List R → List R
  put_diagonal a i d = set d i (cell A n a i i)

  -- the diagonal of a
  unfoldable pub diagonal : List R → List R
  diagonal a = upto 0 n (put_diagonal a) (replicate n (zero_of A))

  -- v = identity, d = diagonal, bw = d, zw = 0
  unfoldable pub start : List R → Run R
  start a = going (work a identity (diagonal a) (replicate n (zero_of A)) 0) (diagonal a) 0

  -- for it_num in 0..limit
  unfoldable pub sweeps_of : ℕ → List R → Run R
  sweeps_of limit a = upto 0 limit step (start a)
