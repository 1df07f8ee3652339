-- LU over any record: the pivot's row, a column by its three cases, and what a singular column ends. Assumes nothing.
use Prim.Native.Nat.{ℕ, ◌+◌, ◌≤◌, ◌<◌}
use mathlib.Core.Path.{◌≡◌, refl, ap, sym, ◌∙◌}
use mathlib.Core.Bool.{Bool, true, false, cond}
use mathlib.Core.List.{List}
use native.Mathlib.Omega.{arith}
use lib.Ieee.{Float, lt, eq}
use borrow.Author.Tests.{eq-eqb, ne_eqb}
use Rattle.real.specs.Operations as float
use Rattle.real.specs.Sign.{abs_of}
use Rattle.algebra.specs.Algebra.{Algebra}
use Rattle.algebra.specs.Loop.{upto}
use Rattle.algebra.proofs.Loop.{upto_keep, upto_step}
use Rattle.matrices.specs.Matrix.{exchange, exchange_rows, cell}
use Rattle.matrices.specs.Lu.{Run, going, singular, better, bring_pivot, pivot_of, column}
use Rattle.matrices.specs.declared.Pivot.{Pivot}

better_is : (x : Float) (k : ℕ) (b : Pivot) → better x k b ≡ cond (lt b.magnitude (abs_of x)) (record { magnitude = abs_of x; row = k }) b
unfolding better
better_is x k b = refl

-- the row of a pivot is one of those looked at
pub pivot_row : {R : Type 0} (A : Algebra R) (n : ℕ) (a : List R) (i : ℕ) → i < n → (i ≤ (pivot_of A n a i).row) × ((pivot_of A n a i).row < n)
unfolding pivot_of
pivot_row A n a i h =
    upto_keep (λ b. (i ≤ b.row) × (b.row < n)) (λ k. better (A.re (cell A n a k i)) k) i n (λ k b l u p. keep (A.re (cell A n a k i)) k b l u p) (record { magnitude = float.zero; row = i }) (omega arith)
  where
    pick : (k : ℕ) (b : Pivot) (x : Float) (t : Bool) → i ≤ k → k < n → (i ≤ b.row) × (b.row < n)
        → (i ≤ (cond t (record { magnitude = x; row = k }) b).row) × ((cond t (record { magnitude = x; row = k }) b).row < n)
    pick k b x true l u p = (l, u)
    pick k b x false l u p = p

    keep : (x : Float) (k : ℕ) (b : Pivot) → i ≤ k → k < n → (i ≤ b.row) × (b.row < n) → (i ≤ (better x k b).row) × ((better x k b).row < n)
    keep x k b l u p = rw (better_is x k b) (pick k b (abs_of x) (lt b.magnitude (abs_of x)) l u p)

-- a pivot brought up, by its three cases
module _ {B : Type 0} (d : B) (k : ℕ) (b : Pivot) (i : ℕ) (a : List B) (p : List ℕ) (swaps : ℕ) where
  pub bring_pivot-none : eq b.magnitude float.zero ≡ true → bring_pivot d k b i a p swaps ≡ singular i
  unfolding bring_pivot
  bring_pivot-none t = rw t refl

  pub bring_pivot-stays : eq b.magnitude float.zero ≡ false → b.row ≡ i → bring_pivot d k b i a p swaps ≡ going a p swaps
  unfolding bring_pivot
  bring_pivot-stays t h = rw (t, eq-eqb b.row i h) refl

  pub bring_pivot-moves : eq b.magnitude float.zero ≡ false → (b.row ≡ i → ⊥) → bring_pivot d k b i a p swaps ≡ going (exchange_rows d k i b.row a) (exchange 0 i b.row p) (swaps + 1)
  unfolding bring_pivot
  bring_pivot-moves t h = rw (t, ne_eqb b.row i h) refl

module _ {R : Type 0} (A : Algebra R) (n : ℕ) where
  -- what is singular stays so
  singular_stays : (k c : ℕ) → upto k n (column A n) (singular c) ≡ singular c
  unfolding column
  singular_stays k c = upto_keep (λ r. r ≡ singular c) (column A n) k n (λ j r l u p. ap (column A n j) p) (singular c) refl

  -- a singular column ends the run
  pub run_stops : {t : Run R} (i c : ℕ) (r : Run R) → i < n → column A n i r ≡ singular c → upto i n (column A n) r ≡ t → t ≡ singular c
  run_stops i c r h e p = sym p ∙ upto_step i n (column A n) r h ∙ ap (upto (i + 1) n (column A n)) e ∙ singular_stays (i + 1) c
