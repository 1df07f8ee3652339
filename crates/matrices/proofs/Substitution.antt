-- Solving from starts that stand in place: an element less its products, every element from the first on and from the last back. Assumes nothing.
use Prim.Native.Nat.{ℕ, ◌+◌, ◌-◌, ◌*◌, ◌≤◌, ◌<◌}
use mathlib.Core.Path.{◌≡◌, refl, ap, sym, ◌∙◌}
use mathlib.Core.List.{List}
use native.Mathlib.Omega.{arith}
use lib.ListN.{length, get_or, set}
use lib.Ieee.{Float}
use Rattle.algebra.specs.Algebra.{Algebra, zero_of}
use Rattle.algebra.specs.Flat.{Layout, decode}
use Rattle.algebra.proofs.Loop.{upto_turn, upto_end}
use Rattle.algebra.proofs.Laws.{Laws}
use Rattle.matrices.specs.Matrix.{cell}
use Rattle.matrices.specs.Solve.{Strided, less, less_row, less_product, forward_row_from, forward_from, back_row, back, substitute_from}
use Rattle.matrices.proofs.Held.{strided_held}
use Rattle.matrices.proofs.Inner.{forward_by, back_row-by}
use Rattle.matrices.proofs.Turns.{Running, run_turn}

module _ {R : Type 0} {A : Algebra R} {L : Layout R} (Q : Laws A L) where
  -- `at` is the place of element i as the code has it
  pub forwarded : (n stride base i at : ℕ) (a x x' : List Float) (u r : R) → Strided L.width n stride base x → i < n → at ≡ i * stride + base
      → u ≡ get_or (decode L x) at (zero_of A) → r ≡ less_row A n (decode L a) stride base i (decode L x) 0 i u
      → decode L x' ≡ set (decode L x) at r → decode L x' ≡ forward_row_from A n (decode L a) stride base i (decode L x)
  forwarded n stride base i at a x x' u r s h p eu er e =
      e ∙ ap (set (decode L x) at) (er ∙ ap (less_row A n (decode L a) stride base i (decode L x) 0 i) eu)
      ∙ (λ t. set (decode L x) (p t) (less_row A n (decode L a) stride base i (decode L x) 0 i (get_or (decode L x) (p t) (zero_of A))))
      ∙ sym (forward_by A n (decode L a) stride base s.some (decode L x) i (strided_held Q n stride base i (i * stride + base) x s h refl))

  pub backed : (n stride base i at : ℕ) (a x x' : List Float) (u r v y : R) → Strided L.width n stride base x → i < n → at ≡ i * stride + base
      → u ≡ get_or (decode L x) at (zero_of A) → r ≡ less_row A n (decode L a) stride base i (decode L x) (i + 1) n u → v ≡ get_or (decode L a) (i * n + i) (zero_of A) → y ≡ A.div r v
      → decode L x' ≡ set (decode L x) at y → decode L x' ≡ back_row A n (decode L a) stride base i (decode L x)
  unfolding cell
  backed n stride base i at a x x' u r v y s h p eu er ev ey e =
      let row = λ (w : R). less_row A n (decode L a) stride base i (decode L x) (i + 1) n w in
      let pivot = get_or (decode L a) (i * n + i) (zero_of A) in
      e ∙ ap (set (decode L x) at) (ey ∙ (λ t. A.div ((er ∙ ap row eu) t) (ev t)))
      ∙ (λ t. set (decode L x) (p t) (A.div (row (get_or (decode L x) (p t) (zero_of A))) pivot))
      ∙ sym (back_row-by A n (decode L a) stride base s.some (decode L x) i (strided_held Q n stride base i (i * stride + base) x s h refl))

  -- the products of a row, taken from r
  abbrev pub Lessening : ℕ → List Float → List Float → ℕ → ℕ → ℕ → ℕ → ℕ → R → R → ℕ → Type 0
  Lessening n a x stride base i lo hi r₀ r k = less_row A n (decode L a) stride base i (decode L x) k hi r ≡ less_row A n (decode L a) stride base i (decode L x) lo hi r₀

  pub lessening : (n : ℕ) (a x : List Float) (stride base i lo hi : ℕ) (r : R) → Lessening n a x stride base i lo hi r r lo
  lessening n a x stride base i lo hi r = refl

  pub less_turn : (n : ℕ) (a x : List Float) (stride base i lo hi : ℕ) (r₀ r r' : R) (k : ℕ) → Lessening n a x stride base i lo hi r₀ r k → k < hi
      → r' ≡ less_product A r (decode L a) (i * n + k) (decode L x) (k * stride + base) → Lessening n a x stride base i lo hi r₀ r' (k + 1)
  unfolding less cell
  less_turn n a x stride base i lo hi r₀ r r' k m h e = upto_turn k hi _ r r' h e m

  pub less_end : (n : ℕ) (a x : List Float) (stride base i lo hi : ℕ) (r₀ r : R) (k : ℕ) → Lessening n a x stride base i lo hi r₀ r k → hi ≤ k
      → r ≡ less_row A n (decode L a) stride base i (decode L x) lo hi r₀
  less_end n a x stride base i lo hi r₀ r k m h = upto_end k hi _ r h m

  -- every element, from the first on and from the last back
  abbrev pub Forwarding : ℕ → List Float → List Float → ℕ → ℕ → List Float → ℕ → Type 0
  Forwarding n a x₀ stride base x i = Running Q (forward_row_from A n (decode L a) stride base) n x₀ x i (forward_from A n (decode L a) stride base (decode L x₀))

  pub forwarding : (n : ℕ) (a x : List Float) (stride base : ℕ) → Forwarding n a x stride base x 0
  unfolding forward_from
  forwarding n a x stride base = record { size = refl; rest = refl }

  abbrev pub Backing : ℕ → List Float → List Float → ℕ → ℕ → List Float → ℕ → Type 0
  Backing n a x₀ stride base x t = Running Q (λ k. back_row A n (decode L a) stride base (n - 1 - k)) n x₀ x t (back A n (decode L a) stride base (decode L x₀))

  pub backing : (n : ℕ) (a x : List Float) (stride base : ℕ) → Backing n a x stride base x 0
  unfolding back
  backing n a x stride base = record { size = refl; rest = refl }

  -- j elements are left, the first of them: element j - 1 is made next
  pub back_start : (n : ℕ) (a x : List Float) (stride base : ℕ) → Backing n a x stride base x (n - n)
  back_start n a x stride base = let none : n - n ≡ 0 = omega arith in rw none (backing n a x stride base)

  pub back_turn : (n : ℕ) (a x₀ : List Float) (stride base : ℕ) (x x' : List Float) (j : ℕ) → Backing n a x₀ stride base x (n - j) → 0 < j → j ≤ n → length x' ≡ length x
      → decode L x' ≡ back_row A n (decode L a) stride base (j - 1) (decode L x) → Backing n a x₀ stride base x' (n - (j - 1))
  back_turn n a x₀ stride base x x' j r p h s e =
      let row : n - 1 - (n - j) ≡ j - 1 = omega arith in
      let next : n - (j - 1) ≡ n - j + 1 = omega arith in
      rw next (run_turn Q _ n x₀ x x' (n - j) _ r (omega arith) s (e ∙ ap (λ (k : ℕ). back_row A n (decode L a) stride base k (decode L x)) (sym row)))

  -- forward, then back
  pub substituted : (n stride base : ℕ) (a x x' x'' : List Float) → decode L x' ≡ forward_from A n (decode L a) stride base (decode L x) → decode L x'' ≡ back A n (decode L a) stride base (decode L x')
      → decode L x'' ≡ substitute_from A n (decode L a) stride base (decode L x)
  unfolding substitute_from
  substituted n stride base a x x' x'' e f = f ∙ ap (back A n (decode L a) stride base) e
