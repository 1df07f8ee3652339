-- Eigenvalues put in order, the vectors' columns with them: the end of `jacobi_eigenvalue` in linalg.rs; and the whole run. Definitions only.
use Rattle.std.specs.Prelude.{ℕ, ◌+◌, ◌-◌, ◌*◌, Bool, true, false, cond, List, eqb}
use Rattle.std.specs.Float.Ieee.{lt}
use Rattle.algebra.specs.Algebra.{Algebra, zero_of}
use Rattle.algebra.specs.Loop.{upto}
use Rattle.matrices.specs.Matrix.{exchange}
use Rattle.rotations.specs.Rotation.{item}
use Rattle.jacobi.specs.Sweeps.{Run, going, settled, sweeps_of}

-- eigenvalues d and vectors v, a column each
pub record Pairs (R : Type 0) : Type 0 where
  pub d : List R
  pub v : List R

abbrev pub pairs : {R : Type 0} → List R → List R → Pairs R
pairs d v = record { d = d; v = v }

-- what a run gives: values and vectors, the sweeps that did not stop at the threshold, the rotations, and whether it did stop there
pub record Eigen (R : Type 0) : Type 0 where
  pub values : List R
  pub vectors : List R
  pub sweeps : ℕ
  pub rotations : ℕ
  pub stopped : Bool

abbrev pub eigen : {R : Type 0} → List R → List R → ℕ → ℕ → Bool → Eigen R
eigen values vectors sweeps rotations stopped = record { values = values; vectors = vectors; sweeps = sweeps; rotations = rotations; stopped = stopped }

-- how the sweeps ended: d and v, not yet in order
abbrev pub ended : {R : Type 0} → Run R → Eigen R
ended (going w bw sweeps) = eigen w.d w.v sweeps w.rotations false
ended (settled w sweeps) = eigen w.d w.v sweeps w.rotations true

module _ {R : Type 0} (A : Algebra R) (n : ℕ) where
  -- if d[l].re() < d[m].re() { m = l }
  unfoldable pub smaller : List R → ℕ → ℕ → ℕ
  smaller d l m = cond (lt (A.re (item A d l)) (A.re (item A d m))) l m

  -- the first of the least from k on
  unfoldable pub least : List R → ℕ → ℕ
  least d k = upto (k + 1) n (smaller d) k

  -- v.swap((l, m), (l, k))
  unfoldable pub exchange_in_row : ℕ → ℕ → ℕ → List R → List R
  exchange_in_row m k l v = exchange (zero_of A) (l * n + m) (l * n + k) v

  -- for l in 0..n
  unfoldable pub exchange_columns : ℕ → ℕ → List R → List R
  exchange_columns m k v = upto 0 n (exchange_in_row m k) v

  -- the values m and k with their columns exchanged, if m is not k
  unfoldable pub bring_smallest : ℕ → ℕ → Pairs R → Pairs R
  bring_smallest m k e = cond (eqb m k) e (pairs (exchange (zero_of A) m k e.d) (exchange_columns m k e.v))

  -- the least from k on brought to k
  unfoldable pub select : ℕ → Pairs R → Pairs R
  select k e = bring_smallest (least e.d k) k e

  -- for k in 0..n - 1
  unfoldable pub sort : Pairs R → Pairs R
  sort e = upto 0 (n - 1) select e

  -- values and vectors put in order
  unfoldable pub ordered : Eigen R → Eigen R
  ordered e = let p = sort (pairs e.values e.vectors) in eigen p.d p.v e.sweeps e.rotations e.stopped

  -- jacobi_eigenvalue(a, limit)
  unfoldable pub jacobi_of : ℕ → List R → Eigen R
  jacobi_of limit a = ordered (ended (sweeps_of A n limit a))
