-- Solve and inverse whole: what each column starts from is written first, element by element, then the substitution runs. Assumes nothing.
use Prim.Native.Nat.{ℕ, ◌+◌, ◌*◌, ◌≤◌, ◌<◌}
use mathlib.Core.Path.{◌≡◌, refl, ap, sym, subst, ◌∙◌}
use mathlib.Core.List.{List}
use native.Mathlib.Omega.{arith}
use lib.ListN.{length, get_or, set, replicate}
use lib.Ieee.{Float}
use Rattle.real.specs.Operations as float
use Rattle.algebra.specs.Algebra.{Algebra, zero_of, one_of}
use Rattle.algebra.specs.Flat.{Layout, tabulate, decode}
use Rattle.algebra.specs.Loop.{upto}
use Rattle.algebra.proofs.Flat.{decode_blank, tabulate_length, tabulate_at}
use Rattle.algebra.proofs.Cells.{holds}
use Rattle.algebra.proofs.Laws.{Laws}
use Rattle.matrices.specs.Inverse.{units, inverse_of}
use Rattle.matrices.specs.Matrix.{Square, store}
use Rattle.orders.specs.Order.{Order}
use Rattle.matrices.specs.Solve.{substitute_from, solve_starts, solve_of}
use Rattle.floats.proofs.Fill.{Filled, filled_more, filled_all}
use Rattle.matrices.proofs.Starts.{solve_by, inverse_by}
use Rattle.matrices.proofs.Turns.{Running, run_turn}

module _ {R : Type 0} {A : Algebra R} {L : Layout R} (Q : Laws A L) where
  -- ---- solve: the starts written, then the run

  abbrev pub start_of : List ℕ → List Float → ℕ → R
  start_of p b k = get_or (decode L b) (get_or p k 0) (zero_of A)

  -- before element i: those below it hold their starts
  pub record Starting (f : ℕ → R) (x₀ x : List Float) (i : ℕ) : Type 0 where
    pub size : length x ≡ length x₀
    pub filled : Filled (zero_of A) f (decode L x) i

  pub starting : (f : ℕ → R) (x : List Float) → Starting f x x 0
  starting f x = record { size = refl; filled = λ k h. absurd (omega arith) }

  pub start_turn : (f : ℕ → R) (n : ℕ) (x₀ x x' : List Float) (i : ℕ) (u : R) → Starting f x₀ x i → i < n → length x₀ ≡ n * L.width → length x' ≡ length x → u ≡ f i → decode L x' ≡ set (decode L x) i u
      → Starting f x₀ x' (i + 1)
  start_turn f n x₀ x x' i u t h z s eu e = record {
    size = s ∙ t.size;
    filled = subst (λ (l : List R). Filled (zero_of A) f l (i + 1)) (sym (e ∙ ap (set (decode L x) i) eu)) (filled_more (zero_of A) f (decode L x) i (omega (arith, h, holds Q x n (t.size ∙ z))) t.filled);
  }

  pub start_end : (f : ℕ → R) (n : ℕ) (x₀ x : List Float) (i : ℕ) → Starting f x₀ x i → n ≤ i → length x₀ ≡ n * L.width → decode L x ≡ tabulate f n 0
  start_end f n x₀ x i t h z =
      let k = holds Q x n (t.size ∙ z) in
      filled_all (zero_of A) f (decode L x) (tabulate f n 0) i (omega arith) (k ∙ sym (tabulate_length f n 0)) t.filled (λ j b. tabulate_at f n 0 j (zero_of A) (omega arith) ∙ ap f (omega arith))

  pub solved : (n : ℕ) (a b x' x'' : List Float) (p : List ℕ) → decode L x' ≡ solve_starts A n p (decode L b) → decode L x'' ≡ substitute_from A n (decode L a) 1 0 (decode L x')
      → decode L x'' ≡ solve_of A n (decode L a) p (decode L b)
  solved n a b x' x'' p e f = f ∙ ap (substitute_from A n (decode L a) 1 0) e ∙ sym (solve_by A n (decode L a) p (decode L b))

  -- ---- inverse: the ones and zeros written, then a run down each column

  -- the one of row i
  abbrev one_in_row : ℕ → List ℕ → ℕ → List R → List R
  one_in_row n p i x = store A n x i (get_or p i 0) (one_of A)

  abbrev pub Ones : ℕ → List ℕ → List Float → List Float → ℕ → Type 0
  Ones n p x₀ x i = Running Q (one_in_row n p) n x₀ x i (units A n p)

  pub ones_start : (n : ℕ) (p : List ℕ) (x x₁ : List Float) → Square L.width n x → x₁ ≡ replicate (length x) float.zero → Ones n p x₁ x₁ 0
  unfolding units
  ones_start n p x x₁ s e = record {
    size = refl;
    rest = ap (λ (l : List R). upto 0 n (one_in_row n p) l) (ap (decode L) (e ∙ ap (λ (k : ℕ). replicate k float.zero) s.full) ∙ decode_blank L Q.lawful A Q.agrees (n * n));
  }

  pub ones_turn : (n : ℕ) (p : List ℕ) (x₀ x x' : List Float) (i : ℕ) → Ones n p x₀ x i → i < n → length x' ≡ length x → decode L x' ≡ set (decode L x) (i * n + get_or p i 0) (one_of A)
      → Ones n p x₀ x' (i + 1)
  unfolding store
  ones_turn n p x₀ x x' i r h s e = run_turn Q (one_in_row n p) n x₀ x x' i (units A n p) r h s e

  abbrev pub Inverting : ℕ → List Float → List ℕ → List Float → List Float → ℕ → Type 0
  Inverting n a p x₀ x j = Running Q (λ k. substitute_from A n (decode L a) n k) n x₀ x j (inverse_of A n (decode L a) p)

  pub inverse_start : (n : ℕ) (a : List Float) (p : List ℕ) (x : List Float) → Order n p → decode L x ≡ units A n p → Inverting n a p x x 0
  inverse_start n a p x o e = record { size = refl; rest = ap (upto 0 n (λ j. substitute_from A n (decode L a) n j)) e ∙ sym (inverse_by A n (decode L a) p o) }
