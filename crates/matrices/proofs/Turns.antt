-- A loop over one lent buffer of records: before turn k, what is left to run gives the whole. Over any record. Assumes nothing.
use Prim.Native.Nat.{ℕ, ◌+◌, ◌≤◌, ◌<◌}
use mathlib.Core.Path.{◌≡◌, ◌∙◌}
use mathlib.Core.List.{List}
use lib.ListN.{length}
use lib.Ieee.{Float}
use Rattle.algebra.specs.Algebra.{Algebra}
use Rattle.algebra.specs.Flat.{Layout, decode}
use Rattle.algebra.specs.Loop.{upto}
use Rattle.algebra.proofs.Laws.{Laws}
use Rattle.algebra.proofs.Loop.{upto_turn, upto_end}

module _ {R : Type 0} {A : Algebra R} {L : Layout R} (Q : Laws A L) where
  pub record Running (f : ℕ → List R → List R) (n : ℕ) (x₀ x : List Float) (k : ℕ) (whole : List R) : Type 0 where
    pub size : length x ≡ length x₀
    pub rest : upto k n f (decode L x) ≡ whole

  pub run_turn : (f : ℕ → List R → List R) (n : ℕ) (x₀ x x' : List Float) (k : ℕ) (whole : List R) → Running f n x₀ x k whole → k < n → length x' ≡ length x → decode L x' ≡ f k (decode L x)
      → Running f n x₀ x' (k + 1) whole
  run_turn f n x₀ x x' k whole r h s e = record { size = s ∙ r.size; rest = upto_turn k n f (decode L x) (decode L x') h e r.rest }

  pub run_end : (f : ℕ → List R → List R) (n : ℕ) (x₀ x : List Float) (k : ℕ) (whole : List R) → Running f n x₀ x k whole → n ≤ k → decode L x ≡ whole
  run_end f n x₀ x k whole r h = upto_end k n f (decode L x) h r.rest
