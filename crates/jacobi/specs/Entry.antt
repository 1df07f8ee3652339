-- What a call of Jacobi answers and leaves, over any record in flat floats: document 01's refusals in its order, then the run. Definitions only.
use Rattle.std.specs.Prelude.{ℕ, ◌*◌, cond, ◌&&◌, List, ltb, eqb, length, Float}
use Rattle.refusals.specs.Largest as largest
use Rattle.refusals.specs.Number as refusal
use Rattle.algebra.specs.Algebra.{Algebra}
use Rattle.algebra.specs.Flat.{Layout, decode, encode}
use Rattle.algebra.specs.Outcome.{Outcome, value, refused}
use Rattle.jacobi.specs.Sort.{Eigen, jacobi_of}

-- the first refusal that applies, by its number; 0 where none does. A record has w floats; of the lent buffers the lengths are given.
-- 1: n above the largest; 3: n = 0; 2: a lent length is not the one wanted; 4: a limit above the largest
abbrev pub jacobi_refusal : ℕ → ℕ → ℕ → ℕ → ℕ → ℕ → ℕ
jacobi_refusal w n a limit values vectors =
    cond (ltb largest.n n) refusal.too_large
    (cond (eqb n 0) refusal.empty
    (cond (eqb a (n * n * w) && (eqb values (n * w) && eqb vectors (n * n * w)))
    (cond (ltb largest.limit limit) refusal.limit_too_large 0) refusal.wrong_length))

-- what a call leaves: done with the sweep count or refused by a number, and both buffers
pub record JacobiLeft : Type 0 where
  pub answer : Outcome ℕ
  pub values : List Float
  pub vectors : List Float

abbrev pub jacobi_answered : Outcome ℕ → List Float → List Float → JacobiLeft
jacobi_answered r values vectors = record { answer = r; values = values; vectors = vectors }

module _ {R : Type 0} (A : Algebra R) (L : Layout R) (n : ℕ) where
  -- what a run leaves
  abbrev pub jacobi_done : Eigen R → JacobiLeft
  jacobi_done e = jacobi_answered (value e.sweeps) (encode L e.values) (encode L e.vectors)

  -- jacobi_eigenvalue(n, a, limit, values, vectors)
  unfoldable pub jacobi_left : List Float → ℕ → List Float → List Float → JacobiLeft
  jacobi_left a limit values vectors =
      let number = jacobi_refusal L.width n (length a) limit (length values) (length vectors) in
      cond (eqb number 0) (jacobi_done (jacobi_of A n limit (decode L a))) (jacobi_answered (refused number) values vectors)
