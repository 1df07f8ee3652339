-- A row below the pivot: its multiplier stored, then its records lessened one by one while the multiplier stays; then every row below. Assumes nothing.
use Prim.Native.Nat.{ℕ, ◌+◌, ◌*◌, ◌≤◌, ◌<◌}
use mathlib.Core.Path.{◌≡◌, refl, ap, ◌∙◌}
use mathlib.Core.List.{List}
use native.Mathlib.Nat.{mul-le-mul_right}
use native.Mathlib.Omega.{arith}
use lib.ListN.{length, get_or, set}
use lib.Ieee.{Float}
use Rattle.algebra.specs.Algebra.{Algebra, zero_of}
use Rattle.algebra.specs.Flat.{Layout, decode}
use Rattle.algebra.specs.Loop.{upto}
use Rattle.algebra.proofs.Loop.{upto_turn, upto_end}
use Rattle.algebra.proofs.Cells.{held}
use Rattle.algebra.proofs.Laws.{Laws}
use Rattle.matrices.specs.Lu.{subtract_multiple, subtract, subtract_row, reduce_row, reduce}
use Rattle.matrices.specs.Matrix.{RowPlace, cell, store}
use Rattle.matrices.proofs.Inner.{subtract_by, multiplier_stays, multiplier_is}
use Rattle.matrices.proofs.Turns.{Running}

module _ {R : Type 0} {A : Algebra R} {L : Layout R} (Q : Laws A L) where
  -- before column k: the multiplier is as it was, and what is left to run gives the whole
  pub record Subtracting (n : ℕ) (a₀ : List Float) (i j : ℕ) (x : R) (a : List Float) (k : ℕ) : Type 0 where
    pub from : i < k
    pub size : length a ≡ length a₀
    pub multiplier : cell A n (decode L a) j i ≡ x
    pub rest : upto k n (subtract A n i j) (decode L a) ≡ subtract_row A n i j (decode L a₀)

  pub subtract_start : (n : ℕ) (a : List Float) (i j : ℕ) (x : R) → cell A n (decode L a) j i ≡ x → Subtracting n a i j x a (i + 1)
  subtract_start n a i j x e = record { from = omega arith; size = refl; multiplier = e; rest = refl }

  pub subtract_turn : (n : ℕ) (a₀ : List Float) (i j : ℕ) (x : R) (a a' : List Float) (k : ℕ) → Subtracting n a₀ i j x a k → k < n → length a' ≡ length a
      → decode L a' ≡ subtract_multiple A (j * n + k) (i * n + k) x (decode L a)
      → Subtracting n a₀ i j x a' (k + 1)
  subtract_turn n a₀ i j x a a' k r h s w =
      let e = w ∙ subtract_by A n i j k x (decode L a) r.multiplier in
      record {
        from = omega (arith, r.from);
        size = s ∙ r.size;
        multiplier = ap (λ (m : List R). cell A n m j i) e ∙ multiplier_stays A n i j k (decode L a) r.from ∙ r.multiplier;
        rest = upto_turn k n (subtract A n i j) (decode L a) (decode L a') h e r.rest;
      }

  pub subtract_end : (n : ℕ) (a₀ : List Float) (i j : ℕ) (x : R) (a : List Float) (k : ℕ) → Subtracting n a₀ i j x a k → n ≤ k → decode L a ≡ subtract_row A n i j (decode L a₀)
  subtract_end n a₀ i j x a k r h = upto_end k n (subtract A n i j) (decode L a) h r.rest

  -- the multiplier is stored, and is what stands there
  pub multiplier_stored : (n i j : ℕ) (a a' : List Float) (x : R) → RowPlace L.width n j a → i < n → decode L a' ≡ set (decode L a) (j * n + i) x → cell A n (decode L a') j i ≡ x
  unfolding store
  multiplier_stored n i j a a' x r h e =
      let m : (j * n + i + 1) * L.width ≤ (j * n + n) * L.width = mul-le-mul_right L.width (omega arith) in
      let p : (j * n + i) * L.width + L.width ≤ length a = omega (arith, r.whole) in
      ap (λ (l : List R). cell A n l j i) e ∙ multiplier_is A n (decode L a) j i x (held Q a (j * n + i) p)

  -- from the calls: the two records read, their quotient stored, the rest of the row
  pub reduced : (n i j : ℕ) (a a' a'' : List Float) (u v x : R) → u ≡ get_or (decode L a) (j * n + i) (zero_of A) → v ≡ get_or (decode L a) (i * n + i) (zero_of A) → x ≡ A.div u v
      → decode L a' ≡ set (decode L a) (j * n + i) x → decode L a'' ≡ subtract_row A n i j (decode L a') → decode L a'' ≡ reduce_row A n i j (decode L a)
  unfolding reduce_row store cell
  reduced n i j a a' a'' u v x eu ev ex es er =
      er ∙ ap (subtract_row A n i j) (es ∙ ap (set (decode L a) (j * n + i)) (ex ∙ (λ t. A.div (eu t) (ev t))))

  -- every row below i
  abbrev pub Reducing : ℕ → List Float → ℕ → List Float → ℕ → Type 0
  Reducing n a₀ i a j = Running Q (reduce_row A n i) n a₀ a j (reduce A n i (decode L a₀))

  pub reducing : (n : ℕ) (a : List Float) (i : ℕ) → Reducing n a i a (i + 1)
  unfolding reduce
  reducing n a i = record { size = refl; rest = refl }
