-- The pivot that the code found brought up in flat floats: the definition's three ways, and that its row is one from i on. Assumes nothing.
use Prim.Native.Nat.{ℕ, ◌+◌, ◌*◌, ◌≤◌, ◌<◌}
use mathlib.Core.Path.{◌≡◌, ap, sym, ◌∙◌}
use mathlib.Core.Bool.{true, false}
use mathlib.Core.List.{List}
use native.Mathlib.Omega.{arith}
use lib.Ieee.{Float, eq}
use lib.ListN.{length}
use Rattle.real.specs.Operations as float
use Rattle.algebra.specs.Algebra.{reals}
use Rattle.algebra.specs.Flat.{real_parts}
use Rattle.matrices.specs.Lu.{going, singular, pivot_of, bring_pivot, bring_pivot_flat}
use Rattle.matrices.specs.Matrix.{Square, exchange, exchange_rows}
use Rattle.matrices.specs.declared.Pivot.{Pivot}
use Rattle.matrices.proofs.Lu.{pivot_row, bring_pivot-none, bring_pivot-stays, bring_pivot-moves}
use Rattle.matrices.proofs.Places.{row_inside}

module _ (w n i : ℕ) (a : List Float) (b : Pivot) (found : b ≡ pivot_of reals n (real_parts w a) i) where
  -- its row is one of those from i on, so that it has an entry in the order and lies whole in the floats
  pub pivot_below : i < n → b.row < n
  pivot_below h = rw found (pivot_row reals n (real_parts w a) i h).1

  pub pivot_later : i < n → (b.row ≡ i → ⊥) → i < b.row
  pivot_later h ne = let least : i ≤ b.row = rw found (pivot_row reals n (real_parts w a) i h).0 in omega arith

  pub pivot_entry : (o : List ℕ) → i < n → length o ≡ n → b.row < length o
  pivot_entry o h e = omega (arith, pivot_below h)

  pub pivot_inside : Square w n a → i < n → b.row * (n * w) + n * w ≤ length a
  pivot_inside s h = row_inside w n a b.row s (pivot_below h)

  module _ (p : List ℕ) (swaps : ℕ) where
    brought : bring_pivot float.zero (n * w) b i a p swaps ≡ bring_pivot_flat w n i a p swaps
    brought = ap (λ (c : Pivot). bring_pivot float.zero (n * w) c i a p swaps) found

    pub brought_none : eq b.magnitude float.zero ≡ true → singular i ≡ bring_pivot_flat w n i a p swaps
    brought_none t = sym (bring_pivot-none float.zero (n * w) b i a p swaps t) ∙ brought

    pub brought_stays : eq b.magnitude float.zero ≡ false → b.row ≡ i → going a p swaps ≡ bring_pivot_flat w n i a p swaps
    brought_stays t h = sym (bring_pivot-stays float.zero (n * w) b i a p swaps t h) ∙ brought

    pub brought_moves : (a' : List Float) (p' : List ℕ) → eq b.magnitude float.zero ≡ false → (b.row ≡ i → ⊥) → a' ≡ exchange_rows float.zero (n * w) i b.row a → p' ≡ exchange 0 i b.row p
        → going a' p' (swaps + 1) ≡ bring_pivot_flat w n i a p swaps
    brought_moves a' p' t h ea ep = (λ k. going (ea k) (ep k) (swaps + 1)) ∙ sym (bring_pivot-moves float.zero (n * w) b i a p swaps t h) ∙ brought
