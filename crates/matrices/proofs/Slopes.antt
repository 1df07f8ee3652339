-- Slopes never steer. A map h of records that keeps the operations (`Keeps A B h`) carries LU, solve, determinant and inverse over A to the same over B:
-- the same choices, order, count and column, and what is mapped of the factors and the results. Assumes nothing.
use Prim.Native.Nat.{ℕ, zero, suc, ◌+◌, ◌-◌, ◌*◌}
use mathlib.Core.Path.{◌≡◌, refl, ap, sym, ◌∙◌}
use mathlib.Core.Bool.{Bool, true, false, cond}
use mathlib.Core.List.{List, [], ◌∷◌, map}
use lib.ListN.{get_or, set, replicate, get_or-map}
use lib.Dec.{eqb}
use lib.Ieee.{Float, eq}
use borrow.Author.Tests.{eqb-false}
use Rattle.real.specs.Operations as float
use Rattle.algebra.specs.Algebra.{Algebra, Keeps, zero_of, one_of}
use Rattle.algebra.specs.Loop.{upto}
use Rattle.algebra.proofs.Loop.{upto_map}
use Rattle.matrices.specs.Matrix.{exchange, exchange_rows, cell, store}
use Rattle.matrices.specs.Lu.{Run, going, singular, better, bring_pivot, count_up, pivot_of, subtract, reduce_row, reduce, reduce_run, column, lu_of}
use Rattle.matrices.specs.Solve.{less, eliminate, forward_row, forward, divide, back_row, back, substitute, solve_of}
use Rattle.matrices.specs.Determinant.{diagonal_product, determinant_of}
use Rattle.matrices.specs.Inverse.{unit, inverse_column, inverse_of}
use Rattle.orders.specs.Order.{is_odd}
use Rattle.matrices.specs.declared.Pivot.{Pivot}

-- ---- lists

module _ {R S : Type 0} (h : R → S) where
  pub map_set : (l : List R) (i : ℕ) (v : R) → map h (set l i v) ≡ set (map h l) i (h v)
  map_set [] i v = refl
  map_set (x ∷ l) zero v = refl
  map_set (x ∷ l) (suc i) v = ap (λ (r : List S). h x ∷ r) (map_set l i v)

  pub map_replicate : (k : ℕ) (v : R) → map h (replicate k v) ≡ replicate k (h v)
  map_replicate zero v = refl
  map_replicate (suc k) v = ap (λ (r : List S). h v ∷ r) (map_replicate k v)

  pub exchange_map : (d : R) (p q : ℕ) (l : List R) → map h (exchange d p q l) ≡ exchange (h d) p q (map h l)
  unfolding exchange
  exchange_map d p q l =
      map_set (set l p (get_or l q d)) q (get_or l p d)
      ∙ (λ i. set ((map_set l p (get_or l q d) ∙ ap (set (map h l) p) (sym (get_or-map h l q d))) i) q (sym (get_or-map h l p d) i))

  exchange_rows-map : (d : R) (k p q : ℕ) (l : List R) → map h (exchange_rows d k p q l) ≡ exchange_rows (h d) k p q (map h l)
  unfolding exchange_rows
  exchange_rows-map d k p q l =
      upto_map (map h) (λ c. exchange d (p * k + c) (q * k + c)) (λ c. exchange (h d) (p * k + c) (q * k + c)) (λ c m. exchange_map d (p * k + c) (q * k + c) m) 0 k l

-- a run with its matrix carried over
abbrev pub map_run : {B C : Type 0} → (List B → List C) → Run B → Run C
map_run f (going a p swaps) = going (f a) p swaps
map_run f (singular c) = singular c

-- what carries an exchange of rows over carries the pivot's over
pub bring_pivot-carry : {B C : Type 0} (f : List B → List C) (d : B) (e : C) (j k : ℕ) (b : Pivot) (i : ℕ) (a : List B) (p : List ℕ) (swaps : ℕ)
    → ((b.row ≡ i → ⊥) → f (exchange_rows d j i b.row a) ≡ exchange_rows e k i b.row (f a)) → map_run f (bring_pivot d j b i a p swaps) ≡ bring_pivot e k b i (f a) p swaps
unfolding bring_pivot
bring_pivot-carry {C = C} f d e j k b i a p swaps moved = go (eq b.magnitude float.zero) (eqb b.row i) refl
  where
    go : (s t : Bool) → eqb b.row i ≡ t → map_run f (cond s (singular i) (cond t (going a p swaps) (going (exchange_rows d j i b.row a) (exchange 0 i b.row p) (swaps + 1))))
        ≡ cond s (singular i) (cond t (going (f a) p swaps) (going (exchange_rows e k i b.row (f a)) (exchange 0 i b.row p) (swaps + 1)))
    go true t q = refl
    go false true q = refl
    go false false q = ap (λ (m : List C). going m (exchange 0 i b.row p) (swaps + 1)) (moved (eqb-false b.row i q))

module _ {R S : Type 0} (A : Algebra R) (B : Algebra S) (h : R → S) (H : Keeps A B h) (n : ℕ) where
  -- what stands at a place
  at_map : (l : List R) (k : ℕ) → h (get_or l k (zero_of A)) ≡ get_or (map h l) k (zero_of B)
  at_map l k = sym (get_or-map h l k (zero_of A)) ∙ ap (get_or (map h l) k) (H.from_re float.zero)

  cell_map : (a : List R) (r c : ℕ) → h (cell A n a r c) ≡ cell B n (map h a) r c
  unfolding cell
  cell_map a r c = at_map a (r * n + c)

  store_map : (a : List R) (r c : ℕ) (v : R) → map h (store A n a r c v) ≡ store B n (map h a) r c (h v)
  unfolding store
  store_map a r c v = map_set h a (r * n + c) v

  blank_map : (k : ℕ) → map h (replicate k (zero_of A)) ≡ replicate k (zero_of B)
  blank_map k = map_replicate h k (zero_of A) ∙ ap (replicate k) (H.from_re float.zero)

  -- ---- LU

  pub pivot_map : (a : List R) (i : ℕ) → pivot_of A n a i ≡ pivot_of B n (map h a) i
  unfolding pivot_of
  pivot_map a i =
      upto_map (λ b. b) (λ k. better (A.re (cell A n a k i)) k) (λ k. better (B.re (cell B n (map h a) k i)) k)
      (λ k b. ap (λ (x : Float). better x k b) (H.re (cell A n a k i) ∙ ap B.re (cell_map a k i))) i n (record { magnitude = float.zero; row = i })

  subtract_map : (i j k : ℕ) (a : List R) → map h (subtract A n i j k a) ≡ subtract B n i j k (map h a)
  unfolding subtract
  subtract_map i j k a = simp (store_map, H.sub, H.mul, cell_map)

  reduce_row-map : (i j : ℕ) (a : List R) → map h (reduce_row A n i j a) ≡ reduce_row B n i j (map h a)
  unfolding reduce_row
  reduce_row-map i j a = upto_map (map h) (subtract A n i j) (subtract B n i j) (subtract_map i j) (i + 1) n _ ∙ simp (store_map, H.div, cell_map)

  reduce_map : (i : ℕ) (a : List R) → map h (reduce A n i a) ≡ reduce B n i (map h a)
  unfolding reduce
  reduce_map i a = upto_map (map h) (reduce_row A n i) (reduce_row B n i) (reduce_row-map i) (i + 1) n a

  reduce_run-map : (i : ℕ) (r : Run R) → map_run (map h) (reduce_run A n i r) ≡ reduce_run B n i (map_run (map h) r)
  reduce_run-map i (going a p swaps) = ap (λ (m : List S). going m p swaps) (reduce_map i a)
  reduce_run-map i (singular c) = refl

  column_map : (i : ℕ) (r : Run R) → map_run (map h) (column A n i r) ≡ column B n i (map_run (map h) r)
  unfolding column
  column_map i (singular c) = refl
  column_map i (going a p swaps) =
      reduce_run-map i (bring_pivot (zero_of A) n (pivot_of A n a i) i a p swaps)
      ∙ ap (reduce_run B n i)
      (bring_pivot-carry (map h) (zero_of A) (zero_of B) n n (pivot_of A n a i) i a p swaps
      (λ apart. exchange_rows-map h (zero_of A) n i (pivot_of A n a i).row a ∙ ap (λ (d : S). exchange_rows d n i (pivot_of A n a i).row (map h a)) (H.from_re float.zero))
      ∙ ap (λ (b : Pivot). bring_pivot (zero_of B) n b i (map h a) p swaps) (pivot_map a i))

  pub lu_map : (a : List R) → map_run (map h) (lu_of A n a) ≡ lu_of B n (map h a)
  unfolding lu_of
  lu_map a = upto_map (map_run (map h)) (column A n) (column B n) column_map 0 n (going a (count_up n) 0)

  -- ---- solve and inverse

  module _ (a : List R) (stride base : ℕ) where
    eliminate_map : (i k : ℕ) (x : List R) → map h (eliminate A n a stride base i k x) ≡ eliminate B n (map h a) stride base i k (map h x)
    unfolding eliminate less
    eliminate_map i k x = simp (map_set, H.sub, H.mul, at_map, cell_map)

    divide_map : (i : ℕ) (x : List R) → map h (divide A n a stride base i x) ≡ divide B n (map h a) stride base i (map h x)
    unfolding divide
    divide_map i x = simp (map_set, H.div, at_map, cell_map)

    back_row-map : (i : ℕ) (x : List R) → map h (back_row A n a stride base i x) ≡ back_row B n (map h a) stride base i (map h x)
    unfolding back_row
    back_row-map i x =
        divide_map i (upto (i + 1) n (eliminate A n a stride base i) x)
        ∙ ap (divide B n (map h a) stride base i) (upto_map (map h) (eliminate A n a stride base i) (eliminate B n (map h a) stride base i) (eliminate_map i) (i + 1) n x)

    back_map : (x : List R) → map h (back A n a stride base x) ≡ back B n (map h a) stride base (map h x)
    unfolding back
    back_map x = upto_map (map h) (λ t. back_row A n a stride base (n - 1 - t)) (λ t. back_row B n (map h a) stride base (n - 1 - t)) (λ t y. back_row-map (n - 1 - t) y) 0 n x

    module _ (start : ℕ → R) (begin : ℕ → S) (same : (i : ℕ) → h (start i) ≡ begin i) where
      forward_row-map : (i : ℕ) (x : List R) → map h (forward_row A n a stride base start i x) ≡ forward_row B n (map h a) stride base begin i (map h x)
      unfolding forward_row
      forward_row-map i x = upto_map (map h) (eliminate A n a stride base i) (eliminate B n (map h a) stride base i) (eliminate_map i) 0 i _ ∙ simp (map_set, same)

      substitute_map : (x : List R) → map h (substitute A n a stride base start x) ≡ substitute B n (map h a) stride base begin (map h x)
      unfolding substitute forward
      substitute_map x =
          back_map (upto 0 n (forward_row A n a stride base start) x)
          ∙ ap (back B n (map h a) stride base) (upto_map (map h) (forward_row A n a stride base start) (forward_row B n (map h a) stride base begin) forward_row-map 0 n x)

  pub solve_map : (a : List R) (p : List ℕ) (b : List R) → map h (solve_of A n a p b) ≡ solve_of B n (map h a) p (map h b)
  unfolding solve_of
  solve_map a p b =
      substitute_map a 1 0 (λ i. get_or b (get_or p i 0) (zero_of A)) (λ i. get_or (map h b) (get_or p i 0) (zero_of B)) (λ i. at_map b (get_or p i 0)) (replicate n (zero_of A))
      ∙ ap (substitute B n (map h a) 1 0 (λ i. get_or (map h b) (get_or p i 0) (zero_of B))) (blank_map n)

  unit_map : (a : List R) (p : List ℕ) (j i : ℕ) → h (unit A n a p j i) ≡ unit B n (map h a) p j i
  unit_map a p j i = go (eqb (get_or p i 0) j)
    where
      go : (t : Bool) → h (cond t (one_of A) (zero_of A)) ≡ cond t (one_of B) (zero_of B)
      go true = H.from_re float.one
      go false = H.from_re float.zero

  pub inverse_map : (a : List R) (p : List ℕ) → map h (inverse_of A n a p) ≡ inverse_of B n (map h a) p
  unfolding inverse_of inverse_column
  inverse_map a p =
      upto_map (map h) (inverse_column A n a p) (inverse_column B n (map h a) p) (λ j x. substitute_map a n j (unit A n a p j) (unit B n (map h a) p j) (unit_map a p j) x) 0 n (replicate (n * n) (zero_of A))
      ∙ ap (upto 0 n (inverse_column B n (map h a) p)) (blank_map (n * n))

  -- ---- determinant

  pub determinant_map : (a : List R) (swaps : ℕ) → h (determinant_of A n a swaps) ≡ determinant_of B n (map h a) swaps
  unfolding determinant_of diagonal_product
  determinant_map a swaps = go (is_odd swaps) (upto_map h (λ i x. A.mul x (cell A n a i i)) (λ i x. B.mul x (cell B n (map h a) i i)) (λ i x. H.mul x (cell A n a i i) ∙ ap (B.mul (h x)) (cell_map a i i)) 0 n (one_of A) ∙ ap (upto 0 n (λ i x. B.mul x (cell B n (map h a) i i))) (H.from_re float.one))
    where
      go : (t : Bool) {x : R} {y : S} → h x ≡ y → h (cond t (A.neg x) x) ≡ cond t (B.neg y) y
      go true {x} e = H.neg x ∙ ap B.neg e
      go false e = e
