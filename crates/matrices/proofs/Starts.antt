-- Solve and inverse with their starts written first: each row then starts from what it finds in its place, and the results are the plain definitions'.
-- A store off the places that a step reads and writes may be done before or after it. Assumes nothing.
use Prim.Native.Nat.{ℕ, zero, suc, ◌+◌, ◌-◌, ◌*◌, ◌/◌, ◌%◌, ◌≤◌, ◌<◌}
use mathlib.Core.Path.{◌≡◌, ap, sym, ◌∙◌}
use mathlib.Core.List.{List}
use native.Mathlib.Nat.{mul-le-mul_right, mod-lt, div-add-mod', div-lt_iff_lt-mul}
use native.Mathlib.Decide.{dec_lt, ℕ_discrete}
use native.Mathlib.Omega.{arith}
use lib.ListN.{length, get_or, set, replicate, length-set, length-replicate, get_or-replicate}
use lib.Seq.{get_or-set_same, get_or-set_other, set_comm, ext_get_or}
use borrow.Author.Count.{below_more}
use borrow.Author.Tests.{eq-eqb, ne_eqb}
use Rattle.algebra.specs.Algebra.{Algebra, zero_of, one_of}
use Rattle.algebra.specs.Flat.{tabulate}
use Rattle.algebra.specs.Loop.{upto}
use Rattle.algebra.proofs.Flat.{tabulate_length, tabulate_at}
use Rattle.algebra.proofs.Loop.{upto_carry, upto_apart, upto_same, upto_reach}
use Rattle.matrices.specs.Matrix.{cell, store}
use Rattle.matrices.specs.Solve.{assign, less, eliminate, forward_row, forward, divide, back_row, back, substitute, forward_from, substitute_from, solve_starts, solve_of}
use Rattle.matrices.specs.Inverse.{unit, inverse_column, inverse_of, units}
use Rattle.orders.specs.Order.{Order}
use Rattle.floats.proofs.Fill.{Filled, filled_more, filled_all}
use Rattle.matrices.proofs.Inner.{stride_apart}
use Rattle.orders.proofs.Permutation.{order_below}
use Rattle.matrices.proofs.Places.{place}

-- places in different columns are different
column_apart : (n i j k m : ℕ) → j < n → m < n → (j ≡ m → ⊥) → i * n + j ≡ k * n + m → ⊥
column_apart n i j k m hj hm ne e = go (dec_lt i k) (dec_lt k i)
  where
    go : Dec (i < k) → Dec (k < i) → ⊥
    go (yes l) r = omega (arith, mul-le-mul_right n l)
    go (no l) (yes r) = omega (arith, mul-le-mul_right n r)
    go (no l) (no r) = let s : i ≡ k = omega arith in let t = ap (λ (u : ℕ). u * n) s in ne (omega arith)

-- and in different rows
row_apart : (n i j k m : ℕ) → j < n → m < n → (i ≡ k → ⊥) → i * n + j ≡ k * n + m → ⊥
row_apart n i j k m hj hm ne e = go (dec_lt i k)
  where
    go : Dec (i < k) → ⊥
    go (yes l) = omega (arith, mul-le-mul_right n l)
    go (no l) = let r : k < i = omega arith in omega (arith, mul-le-mul_right n r)

-- a square with a place in it has a row
positive : (n q : ℕ) → q < n * n → 0 < n
positive zero q h = absurd (omega arith)
positive (suc n) q h = omega arith

module _ {R : Type 0} (A : Algebra R) (n : ℕ) (a : List R) (stride base : ℕ) where
  -- q is not the place of x[i]
  Off : ℕ → ℕ → Type 0
  Off q i = q ≡ i * stride + base → ⊥

  eliminate_set : (i k q : ℕ) (v : R) (x : List R) → Off q i → Off q k → eliminate A n a stride base i k (set x q v) ≡ set (eliminate A n a stride base i k x) q v
  unfolding Off eliminate less
  eliminate_set i k q v x oi ok =
      let p = i * stride + base in
      let at = get_or-set_other x q p v (zero_of A) (λ e. oi (sym e)) in
      let by = get_or-set_other x q (k * stride + base) v (zero_of A) (λ e. ok (sym e)) in
      (λ t. set (set x q v) p (A.sub (at t) (A.mul (cell A n a i k) (by t)))) ∙ set_comm x q p v _ oi

  row_set : (lo hi i q : ℕ) (v : R) (x : List R) → Off q i → ((k : ℕ) → lo ≤ k → k < hi → Off q k)
      → upto lo hi (eliminate A n a stride base i) (set x q v) ≡ set (upto lo hi (eliminate A n a stride base i) x) q v
  row_set lo hi i q v x oi ok =
      sym (upto_carry (λ y. set y q v) (eliminate A n a stride base i) (eliminate A n a stride base i) lo hi (λ k y l h. sym (eliminate_set i k q v y oi (ok k l h))) x)

  divide_set : (i q : ℕ) (v : R) (x : List R) → Off q i → divide A n a stride base i (set x q v) ≡ set (divide A n a stride base i x) q v
  unfolding Off divide
  divide_set i q v x oi =
      let p = i * stride + base in
      let at = get_or-set_other x q p v (zero_of A) (λ e. oi (sym e)) in
      (λ t. set (set x q v) p (A.div (at t) (cell A n a i i))) ∙ set_comm x q p v _ oi

  -- the rows run from what stands in x, once all starts stand there
  pub forward_from_lem : 0 < stride → (start : ℕ → R) (x : List R)
      → forward A n a stride base start x ≡ forward_from A n a stride base (upto 0 n (λ i y. assign A n a stride base y i (start i)) x)
  unfolding Off forward forward_row forward_from
  forward_from_lem some start x =
      upto_apart (λ i. upto 0 i (eliminate A n a stride base i)) (λ i y. assign A n a stride base y i (start i)) 0 n
      (λ i m y l h u.
      row_set 0 i i (m * stride + base) (start m) y (stride_apart stride base i m some (λ e. omega arith))
      (λ k z b. stride_apart stride base k m some (λ e. omega arith)))
      x

  -- what is off the whole vector is left alone
  from_set : (q : ℕ) (v : R) (x : List R) → ((i : ℕ) → i < n → Off q i) → substitute_from A n a stride base (set x q v) ≡ set (substitute_from A n a stride base x) q v
  unfolding substitute_from forward_from back back_row
  from_set q v x o =
      ap (back A n a stride base)
      (sym (upto_carry (λ y. set y q v) (λ i. upto 0 i (eliminate A n a stride base i)) (λ i. upto 0 i (eliminate A n a stride base i)) 0 n (λ i y l h. sym (row_set 0 i i q v y (o i h) (λ k z b. o k (omega arith)))) x))
      ∙ sym (upto_carry (λ y. set y q v) (λ t. back_row A n a stride base (n - 1 - t)) (λ t. back_row A n a stride base (n - 1 - t)) 0 n
      (λ t y l h.
      let i = n - 1 - t in
      sym (ap (divide A n a stride base i) (row_set (i + 1) n i q v y (o i (omega arith)) (λ k z b. o k b)) ∙ divide_set i q v _ (o i (omega arith))))
      (forward_from A n a stride base x))

-- ---- solve: x[i] starts as b[p[i]]

module _ {R : Type 0} (A : Algebra R) (n : ℕ) (a : List R) (p : List ℕ) (b : List R) where
  abbrev start : ℕ → R
  start i = get_or b (get_or p i 0) (zero_of A)

  pub solve_by : solve_of A n a p b ≡ substitute_from A n a 1 0 (solve_starts A n p b)
  unfolding solve_of substitute substitute_from
  solve_by =
      ap (back A n a 1 0) (forward_from_lem A n a 1 0 (omega arith) start (replicate n (zero_of A)) ∙ ap (forward_from A n a 1 0) written)
    where
      full : List R
      full = upto 0 n (λ i y. assign A n a 1 0 y i (start i)) (replicate n (zero_of A))

      held : (length full ≡ n) × Filled (zero_of A) start full n
      held =
          upto_reach (λ i y. (length y ≡ n) × Filled (zero_of A) start y i) (λ i y. assign A n a 1 0 y i (start i)) 0 n (omega arith)
          (λ i y l h f. let e : i * 1 + 0 ≡ i = omega arith in rw e (length-set y i (start i) ∙ f.0, filled_more (zero_of A) start y i (let z = f.0 in omega arith) f.1))
          (replicate n (zero_of A)) (length-replicate n (zero_of A), λ k h. absurd (omega arith))

      written : full ≡ solve_starts A n p b
      written =
          let z = held.0 in
          filled_all (zero_of A) start full (tabulate start n 0) n (omega arith) (held.0 ∙ sym (tabulate_length start n 0)) held.1 (λ k h. tabulate_at start n 0 k (zero_of A) (omega arith) ∙ ap start (omega arith))

-- ---- inverse: element i of column j starts as one where p[i] is j, else zero

module _ {R : Type 0} (A : Algebra R) (n : ℕ) (a : List R) (p : List ℕ) (o : Order n p) where
  -- column j's starts
  abbrev starts : ℕ → List R → List R
  starts j x = upto 0 n (λ i y. assign A n a n j y i (unit A n a p j i)) x

  -- row i and column j hold their start
  abbrev Started : List R → ℕ → ℕ → Type 0
  Started x i j = get_or x (i * n + j) (zero_of A) ≡ unit A n a p j i

  columns_apart : (j m : ℕ) (x : List R) → j < m → m < n → substitute_from A n a n j (starts m x) ≡ starts m (substitute_from A n a n j x)
  unfolding Off
  columns_apart j m x h u =
      upto_carry (substitute_from A n a n j) (λ i y. assign A n a n m y i (unit A n a p m i)) (λ i y. assign A n a n m y i (unit A n a p m i)) 0 n
      (λ i y l b. from_set A n a n j (i * n + m) (unit A n a p m i) y (λ k c. column_apart n i m k j u (omega arith) (λ e. omega arith)))
      x

  -- all starts written column by column
  abbrev Below : List R → ℕ → Type 0
  Below x m = (length x ≡ n * n) × ((i j : ℕ) → i < n → j < m → Started x i j)

  column_below : (m : ℕ) (x : List R) → m < n → Below x m → Below (starts m x) (m + 1)
  column_below m x h f =
      let r =
      upto_reach (λ k y. Below y m × ((i : ℕ) → i < k → Started y i m)) (λ i y. assign A n a n m y i (unit A n a p m i)) 0 n (omega arith)
      (λ k y z b g.
      let q = k * n + m in
      let u = unit A n a p m k in (
        (length-set y q u ∙ g.0.0, λ i j hi hj. get_or-set_other y q (i * n + j) u (zero_of A) (column_apart n i j k m (omega arith) h (λ e. omega arith)) ∙ g.0.1 i j hi hj),
        below_more (λ i. Started (set y q u) i m) k
            (λ i hi. get_or-set_other y q (i * n + m) u (zero_of A) (stride_apart n m k i (omega arith) (λ e. omega arith)) ∙ g.1 i hi)
            (get_or-set_same y q u (zero_of A) (let t = place n k m b h in let w = g.0.0 in omega arith)),
      ))
      x (f, λ i hi. absurd (omega arith)) in
      (r.0.0, λ i j hi hj. below_more (λ c. Started (starts m x) i c) m (λ c hc. r.0.1 i c hi hc) (r.1 i hi) j hj)

  all_starts : List R
  all_starts = upto 0 n starts (replicate (n * n) (zero_of A))

  all_started : Below all_starts n
  unfolding all_starts
  all_started =
      upto_reach (λ m x. Below x m) starts 0 n (omega arith) (λ m x l h f. column_below m x h f)
      (replicate (n * n) (zero_of A)) (length-replicate (n * n) (zero_of A), λ i j hi hj. absurd (omega arith))

  -- and row by row, the ones alone: rows below m hold their starts, the rest are zero
  abbrev Passed : List R → ℕ → Type 0
  Passed x m = (length x ≡ n * n) × (((i : ℕ) → i < m → (j : ℕ) → j < n → Started x i j) × ((i : ℕ) → m ≤ i → i < n → (j : ℕ) → j < n → get_or x (i * n + j) (zero_of A) ≡ zero_of A))

  one_put : (m : ℕ) (x : List R) → m < n → Passed x m → Passed (set x (m * n + get_or p m 0) (one_of A)) (m + 1)
  one_put m x h f =
      let c = get_or p m 0 in
      let b = order_below n p o m h in
      let other : (i j : ℕ) → (i ≡ m → ⊥) → j < n → get_or (set x (m * n + c) (one_of A)) (i * n + j) (zero_of A) ≡ get_or x (i * n + j) (zero_of A) =
      λ i j ne hj. get_or-set_other x (m * n + c) (i * n + j) (one_of A) (zero_of A) (row_apart n i j m c hj b ne) in (
        length-set x (m * n + c) (one_of A) ∙ f.0,
        (
          below_more (λ i. (j : ℕ) → j < n → Started (set x (m * n + c) (one_of A)) i j) m
              (λ i hi j hj. other i j (λ e. omega arith) hj ∙ f.1.0 i hi j hj)
              (λ j hj. here j hj (ℕ_discrete c j)),
          λ i hi hn j hj. other i j (λ e. omega arith) hj ∙ f.1.1 i (omega arith) hn j hj,
        ),
      )
    where
      here : (j : ℕ) → j < n → Dec (get_or p m 0 ≡ j) → Started (set x (m * n + get_or p m 0) (one_of A)) m j
      here j hj (yes e) =
          rw (eq-eqb _ _ e, sym e) (get_or-set_same x (m * n + get_or p m 0) (one_of A) (zero_of A) (let t = place n m (get_or p m 0) h (order_below n p o m h) in let w = f.0 in omega arith))
      here j hj (no e) =
          rw (ne_eqb _ _ e) (get_or-set_other x (m * n + get_or p m 0) (m * n + j) (one_of A) (zero_of A) (λ z. e (omega arith)) ∙ f.1.1 m (omega arith) h j hj)

  units_passed : Passed (units A n p) n
  unfolding units store
  units_passed =
      upto_reach (λ m x. Passed x m) (λ i x. set x (i * n + get_or p i 0) (one_of A)) 0 n (omega arith) (λ m x l h f. one_put m x h f)
      (replicate (n * n) (zero_of A))
      (length-replicate (n * n) (zero_of A), ((λ i hi. absurd (omega arith)), λ i l hi j hj. get_or-replicate (n * n) (i * n + j) (zero_of A) (zero_of A) (place n i j hi hj)))

  starts_units : all_starts ≡ units A n p
  starts_units =
      ext_get_or (zero_of A) all_starts (units A n p) (all_started.0 ∙ sym units_passed.0)
      (λ q h.
      let z = all_started.0 in
      let b : q < n * n = omega arith in
      let some : 0 < n = positive n q b in
      let i = q / n in
      let j = q % n in
      let hi : i < n = (div-lt_iff_lt-mul some).1 b in
      let hj : j < n = mod-lt q some in
      let e : i * n + j ≡ q = div-add-mod' q n in
      sym (ap (λ (k : ℕ). get_or all_starts k (zero_of A)) e) ∙ all_started.1 i j hi hj ∙ sym (units_passed.1.0 i hi j hj) ∙ ap (λ (k : ℕ). get_or (units A n p) k (zero_of A)) e)

  pub inverse_by : inverse_of A n a p ≡ upto 0 n (λ j. substitute_from A n a n j) (units A n p)
  unfolding inverse_of inverse_column substitute substitute_from all_starts
  inverse_by =
      upto_same (λ x. Unit {0}) (inverse_column A n a p) (λ j x. substitute_from A n a n j (starts j x)) 0 n
      (λ j x l h u. (ap (back A n a n j) (forward_from_lem A n a n j (omega arith) (unit A n a p j) x), tt)) (replicate (n * n) (zero_of A)) tt
      ∙ upto_apart (λ j. substitute_from A n a n j) starts 0 n (λ j m x l h u. columns_apart j m x h u) (replicate (n * n) (zero_of A))
      ∙ ap (upto 0 n (λ j. substitute_from A n a n j)) starts_units
