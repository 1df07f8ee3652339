-- A run compared with the file, and the matrix of the second run. Definitions only.
use Rattle.std.specs.Prelude.{ℕ, ◌/◌, ◌%◌, Bool, false, cond, ◌&&◌, List, eqb, leb, length, get_or, Float}
use Rattle.std.specs.Float.{binary64, nan}
use Rattle.std.specs.Float.Ieee.{of_bits}
use Rattle.algebra.specs.Flat.{tabulate}
use Rattle.algebra.specs.Outcome.{Outcome, value, refused, outcome}
use Rattle.replay_matrices.specs.Cases.{same_floats}
use Rattle.replay_jacobi.specs.declared.Recorded.{Recorded}
use Rattle.replay_jacobi.specs.declared.Ran.{Ran}

-- float number k of a matrix of n by n records of two, which is x: another where its record, number k / 2, stands below the diagonal, NaN for the real part and 42
-- (4045000000000000) for the slope
unfoldable pub spoiled_at : ℕ → ℕ → Float → Float
spoiled_at n k x =
    cond (eqb n 0) x
    (cond (leb (k / 2 / n) (k / 2 % n)) x
    (cond (eqb (k % 2) 0) (of_bits binary64 0x7ff8000000000000) (of_bits binary64 0x4045000000000000)))

unfoldable pub spoiled_of : ℕ → List Float → List Float
spoiled_of n l = tabulate (λ k. spoiled_at n k (get_or l k nan)) (length l) 0

-- done with the recorded number of sweeps, and values and vectors of the recorded words
abbrev pub same_run : ℕ → List ℕ → List ℕ → Outcome ℕ → List Float → List Float → Bool
same_run sweeps values vectors (value got) values_left vectors_left = eqb sweeps got && (same_floats values values_left && same_floats vectors vectors_left)
same_run sweeps values vectors (refused number) values_left vectors_left = false

-- so is a run as it answered and left it
abbrev pub same_ran : Recorded → Ran → Bool
same_ran wanted ran = same_run wanted.sweeps wanted.values.now wanted.vectors.now (outcome ran.answer) ran.values.now ran.vectors.now
