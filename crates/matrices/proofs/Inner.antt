-- The inner loops with what they do not change taken out: the multiplier of a row, and x[i] while its row is eliminated. Assumes nothing.
use Prim.Native.Nat.{ℕ, ◌+◌, ◌*◌, ◌≤◌, ◌<◌}
use mathlib.Core.Path.{◌≡◌, ap, sym, ◌∙◌}
use mathlib.Core.List.{List}
use native.Mathlib.Nat.{mul-le-mul_right}
use native.Mathlib.Decide.{dec_lt}
use native.Mathlib.Omega.{arith}
use lib.ListN.{length, set}
use lib.Seq.{get_or-set_same, get_or-set_other, set-set, set-get_or}
use Rattle.algebra.specs.Algebra.{Algebra, zero_of}
use Rattle.algebra.specs.Loop.{upto}
use Rattle.algebra.proofs.Loop.{upto_carry}
use Rattle.matrices.specs.Matrix.{cell, store}
use Rattle.matrices.specs.Lu.{subtract, subtract_multiple}
use Rattle.matrices.specs.Solve.{element, assign, less, less_row, eliminate, forward_row_from, divide, back_row}

module _ {R : Type 0} (A : Algebra R) (n : ℕ) where
  -- the code of one subtraction, with the multiplier x in hand
  pub subtract_by : (i j k : ℕ) (x : R) (a : List R) → cell A n a j i ≡ x
      → subtract_multiple A (j * n + k) (i * n + k) x a ≡ subtract A n i j k a
  unfolding subtract store cell
  subtract_by i j k x a e = ap (λ (y : R). subtract_multiple A (j * n + k) (i * n + k) y a) (sym e)

  -- a subtraction leaves the multiplier as it is
  pub multiplier_stays : (i j k : ℕ) (a : List R) → i < k → cell A n (subtract A n i j k a) j i ≡ cell A n a j i
  unfolding subtract store cell
  multiplier_stays i j k a h = get_or-set_other a (j * n + k) (j * n + i) _ (zero_of A) (λ e. omega arith)

  -- the multiplier itself is what was stored
  pub multiplier_is : (a : List R) (r c : ℕ) (v : R) → r * n + c < length a → cell A n (store A n a r c v) r c ≡ v
  unfolding store cell
  multiplier_is a r c v h = get_or-set_same a (r * n + c) v (zero_of A) h

-- two elements of a vector stand apart
pub stride_apart : (s b i k : ℕ) → 0 < s → (k ≡ i → ⊥) → k * s + b ≡ i * s + b → ⊥
stride_apart s b i k z ne e = go (dec_lt k i)
  where
    go : Dec (k < i) → ⊥
    go (yes l) = omega (arith, mul-le-mul_right s l)
    go (no l) = let g : i < k = omega arith in omega (arith, mul-le-mul_right s g)

module _ {R : Type 0} (A : Algebra R) (n : ℕ) (a : List R) (stride base : ℕ) (some : 0 < stride) (x : List R) (i : ℕ) (inside : i * stride + base < length x) where
  eliminated : (lo hi : ℕ) → ((k : ℕ) → lo ≤ k → k < hi → k ≡ i → ⊥) → (v : R)
      → upto lo hi (eliminate A n a stride base i) (assign A n a stride base x i v) ≡ assign A n a stride base x i (less_row A n a stride base i x lo hi v)
  unfolding eliminate less
  eliminated lo hi ne v =
      sym (upto_carry (assign A n a stride base x i) (less A n a stride base i x) (eliminate A n a stride base i) lo hi
      (λ k u l h.
      let same = get_or-set_same x (i * stride + base) u (zero_of A) inside in
      let other = get_or-set_other x (i * stride + base) (k * stride + base) u (zero_of A) (λ e. stride_apart stride base i k some (ne k l h) e) in
      sym (set-set x (i * stride + base) u _ ∙ (λ t. set x (i * stride + base) (A.sub (same t) (A.mul (cell A n a i k) (other t))))))
      v)

  -- from what stands in x[i]
  row_by : (lo hi : ℕ) → ((k : ℕ) → lo ≤ k → k < hi → k ≡ i → ⊥)
      → upto lo hi (eliminate A n a stride base i) x ≡ assign A n a stride base x i (less_row A n a stride base i x lo hi (element A n a stride base x i))
  row_by lo hi ne = ap (upto lo hi (eliminate A n a stride base i)) (sym (set-get_or x (i * stride + base) (zero_of A))) ∙ eliminated lo hi ne (element A n a stride base x i)

  pub forward_by : forward_row_from A n a stride base i x ≡ assign A n a stride base x i (less_row A n a stride base i x 0 i (element A n a stride base x i))
  forward_by = row_by 0 i (λ k l h e. omega arith)

  pub back_row-by : back_row A n a stride base i x ≡ assign A n a stride base x i (A.div (less_row A n a stride base i x (i + 1) n (element A n a stride base x i)) (cell A n a i i))
  unfolding back_row divide
  back_row-by =
      let v = less_row A n a stride base i x (i + 1) n (element A n a stride base x i) in
      ap (divide A n a stride base i) (row_by (i + 1) n (λ k l h e. omega arith))
      ∙ set-set x (i * stride + base) v _
      ∙ ap (λ (u : R). set x (i * stride + base) (A.div u (cell A n a i i))) (get_or-set_same x (i * stride + base) v (zero_of A) inside)
