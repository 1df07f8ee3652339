-- The entry's two ways out: refused with nothing written; or done, with what its run asks and what it leaves. Assumes nothing.
use Prim.Native.Nat.{ℕ, ◌*◌, ◌≤◌, ◌<◌}
use mathlib.Core.Path.{◌≡◌, ap, sym, ◌∙◌}
use native.Mathlib.Omega.{arith}
use Rattle.std.specs.Prelude.{Result, Ok, Err}
use mathlib.Core.List.{List}
use lib.ListN.{length}
use lib.Ieee.{Float}
use Rattle.refusals.specs.Largest as largest
use Rattle.refusals.specs.Refused.{number, answer_number}
use Rattle.refusals.specs.declared.Refusal.{Refusal}
use Rattle.refusals.proofs.Numbers.{number_positive}
use Rattle.algebra.specs.Outcome.{value, outcome}
use Rattle.algebra.proofs.Cells.{parts_of}
use Rattle.dual.specs.Rules.{dual_algebra, dual_layout, dual_records}
use Rattle.dual.specs.Laws.{dual_laws}
use Rattle.matrices.specs.Matrix.{Square}
use Rattle.jacobi.specs.Entry.{jacobi_refusal, jacobi_answered, jacobi_left}
use Rattle.jacobi.specs.Sort.{jacobi_of}
use Rattle.rotations.specs.Vector.{Vector}
use Rattle.jacobi.proofs.Scratch.{square_of, scratch_fits}
use Rattle.jacobi.proofs.Slopes.{JacobiFits, jacobi_fits, jacobi_done_lem, jacobi_refused}

-- what a run asks for, with a scratch of so many floats for a matrix and for a row
pub record Allowed (n : ℕ) (a : List Float) (limit : ℕ) (d v : List Float) (matrix row : ℕ) : Type 0 where
  pub square : Square 2 n a
  pub vectors_square : Square 2 n v
  pub values_len : Vector n d
  pub matrix_fits : (n * n * 2 ≤ matrix) × (matrix ≤ largest.n * largest.n * 2)
  pub row_fits : (n * 2 ≤ row) × (row ≤ largest.n * 2)
  pub within : (0 < n) × (limit ≤ largest.limit)

-- the entry's test, and its answer
module _ (n : ℕ) (a : List Float) (limit : ℕ) (d v : List Float) (r : Result (Unit {0}) Refusal) (q : answer_number r ≡ jacobi_refusal 2 n (length a) limit (length d) (length v)) where
  -- a call that is refused
  pub jacobi_unfit : (e : Refusal) (x : Result ℕ Refusal) → r ≡ Err e → x ≡ Err e → jacobi_answered (outcome x) d v ≡ jacobi_left dual_algebra dual_layout n a limit d v
  jacobi_unfit e x h g =
      ap (λ (y : Result ℕ Refusal). jacobi_answered (outcome y) d v) g
      ∙ jacobi_refused dual_algebra dual_layout n a limit d v (number e) (sym (ap answer_number h) ∙ q) (λ z. let p = number_positive e in absurd (omega arith))

  -- a call that is not
  module _ (u : Unit {0}) (h : r ≡ Ok u) where
    none : jacobi_refusal 2 n (length a) limit (length d) (length v) ≡ 0
    none = sym q ∙ ap answer_number h

    fits : JacobiFits 2 n (length a) limit (length d) (length v)
    fits = jacobi_fits 2 n (length a) limit (length d) (length v) none

    pub jacobi_small : n ≤ largest.n
    jacobi_small = fits.small

    -- what its run asks, with a scratch made for a bound
    pub jacobi_allowed : (bound : ℕ) → n ≤ bound → bound ≤ largest.n → Allowed n a limit d v (bound * bound * 2) (bound * 2)
    jacobi_allowed bound h k =
        let s = scratch_fits bound n h in
        let t = scratch_fits largest.n bound k in record {
          square = square_of n a fits.small fits.input;
          vectors_square = square_of n v fits.small fits.vectors;
          values_len = record { full = fits.values };
          matrix_fits = (s.0, t.0);
          row_fits = (s.1, t.1);
          within = (fits.some, fits.limit);
        }

    -- and what it leaves, once it is done
    pub jacobi_answers : (d' v' : List Float) (sweeps : ℕ) → length d' ≡ length d → length v' ≡ length v
        → dual_records d' ≡ (jacobi_of dual_algebra n limit (dual_records a)).values → dual_records v' ≡ (jacobi_of dual_algebra n limit (dual_records a)).vectors
        → sweeps ≡ (jacobi_of dual_algebra n limit (dual_records a)).sweeps
        → jacobi_answered (value sweeps) d' v' ≡ jacobi_left dual_algebra dual_layout n a limit d v
    jacobi_answers d' v' sweeps hd hv ed ev es =
        (λ i. jacobi_answered (value (es i)) (parts_of dual_laws d' n _ (hd ∙ fits.values) ed i) (parts_of dual_laws v' (n * n) _ (hv ∙ fits.vectors) ev i))
        ∙ jacobi_done_lem dual_algebra dual_layout n a limit d v none
