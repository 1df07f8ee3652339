-- The parity of an order: an exchange flips it, 0..n-1 is even, and LU's order is a permutation with the parity of the swap count,
-- which is at most n. Assumes nothing.
use Prim.Native.Nat.{ℕ, zero, suc, ◌≤◌, ◌<◌, ◌+◌}
use mathlib.Core.Path.{◌≡◌, refl, ap, sym, ◌∙◌}
use mathlib.Core.Bool.{Bool, true, false, not, cond, not-not}
use mathlib.Core.List.{List, [], ◌∷◌}
use native.Mathlib.Omega.{arith}
use native.Mathlib.Numerals.{add-one}
use native.Mathlib.Decide.{dec_lt}
use lib.ListN.{length, get_or, set}
use lib.Dec.{ltb, eqb}
use lib.Ieee.{eq}
use borrow.Author.Tests.{lt-ltb, le-ltb, eqb-true, eqb-false}
use Rattle.real.specs.Operations as float
use Rattle.algebra.specs.Algebra.{Algebra, zero_of}
use Rattle.algebra.specs.Flat.{tabulate}
use Rattle.algebra.proofs.Loop.{upto_keep, upto_reach}
use Rattle.matrices.specs.Matrix.{exchange, exchange_rows}
use Rattle.matrices.specs.Lu.{Run, going, singular, count_up, bring_pivot, pivot_of, reduce_run, column, lu_of}
use Rattle.orders.specs.Order.{Distinct, Order, differ, odd_below, parity, is_odd}
use Rattle.matrices.specs.declared.Pivot.{Pivot}
use Rattle.matrices.proofs.Lu.{pivot_row, bring_pivot-none, bring_pivot-stays, bring_pivot-moves}
use Rattle.orders.proofs.Rest.{differ_swap}
use Rattle.orders.proofs.Permutation.{all_at}
use Rattle.matrices.proofs.Exchanges.{fore, exchange_order, count_up-order}

-- ---- the parity of such an exchange

differ_not : (a b : Bool) → differ a (not b) ≡ not (differ a b)
differ_not false b = refl
differ_not true b = refl

fore_below : (z x : ℕ) (l : List ℕ) (q : ℕ) → q < length l → odd_below z (fore x l q) ≡ odd_below z (x ∷ l)
unfolding odd_below
fore_below z x [] q h = absurd (omega arith)
fore_below z x (y ∷ l) zero h = differ_swap (ltb y z) (ltb x z) (odd_below z l)
fore_below z x (y ∷ l) (suc q) h =
    differ_swap (ltb (get_or l q 0) z) (ltb y z) (odd_below z (set l q x))
    ∙ ap (differ (ltb y z)) (fore_below z x l q (omega arith))
    ∙ differ_swap (ltb y z) (ltb x z) (odd_below z l)

-- of two different numbers one is below the other
other_way : (x y : ℕ) → (x ≡ y → ⊥) → ltb x y ≡ not (ltb y x)
other_way x y h = go (dec_lt x y)
  where
    go : Dec (x < y) → ltb x y ≡ not (ltb y x)
    go (yes l) = lt-ltb x y l ∙ ap not (sym (le-ltb y x (omega arith)))
    go (no l) = le-ltb x y (omega arith) ∙ ap not (sym (lt-ltb y x (omega arith)))

adjacent : (x y : ℕ) (l : List ℕ) → (x ≡ y → ⊥) → parity (y ∷ (x ∷ l)) ≡ not (parity (x ∷ (y ∷ l)))
unfolding parity odd_below
adjacent x y l h = rw (other_way x y h) (go (ltb y x) (odd_below x l) (odd_below y l) (parity l))
  where
    go : (t a b c : Bool) → differ (differ (not t) b) (differ a c) ≡ not (differ (differ t a) (differ b c))
    go false false false false = refl
    go false false false true = refl
    go false false true false = refl
    go false false true true = refl
    go false true false false = refl
    go false true false true = refl
    go false true true false = refl
    go false true true true = refl
    go true false false false = refl
    go true false false true = refl
    go true false true false = refl
    go true false true true = refl
    go true true false false = refl
    go true true false true = refl
    go true true true false = refl
    go true true true true = refl

fore_parity : (x : ℕ) (l : List ℕ) (q : ℕ) → q < length l → Distinct (x ∷ l) → parity (fore x l q) ≡ not (parity (x ∷ l))
unfolding parity
fore_parity x [] q h a = absurd (omega arith)
fore_parity x (y ∷ l) zero h a = adjacent x y l a.0.0
fore_parity x (y ∷ l) (suc q) h a =
    let w = get_or l q 0 in
    let s = set l q x in
    let apart : y ≡ w → ⊥ = all_at (λ v. y ≡ v → ⊥) l q (omega arith) a.1.0 in
    let ih = fore_parity x l q (omega arith) (a.0.1, a.1.1) in
    adjacent y w s apart
    ∙ ap not (ap (λ (b : Bool). differ b (parity (w ∷ s))) (fore_below y x l q (omega arith)) ∙ ap (differ (odd_below y (x ∷ l))) ih ∙ differ_not (odd_below y (x ∷ l)) (parity (x ∷ l)))
    ∙ ap (λ (b : Bool). not (not b)) (adjacent x y l a.0.0)
    ∙ not-not (not (parity (x ∷ (y ∷ l))))

-- ---- exchange of two places

exchange_below : (z p q : ℕ) (l : List ℕ) → p < q → q < length l → odd_below z (exchange 0 p q l) ≡ odd_below z l
unfolding exchange odd_below
exchange_below z p q [] h k = absurd (omega arith)
exchange_below z p zero (x ∷ l) h k = absurd (omega arith)
exchange_below z zero (suc q) (x ∷ l) h k = fore_below z x l q (omega arith)
exchange_below z (suc p) (suc q) (x ∷ l) h k = ap (differ (ltb x z)) (exchange_below z p q l (omega arith) (omega arith))

pub exchange_parity : (p q : ℕ) (l : List ℕ) → p < q → q < length l → Distinct l → parity (exchange 0 p q l) ≡ not (parity l)
unfolding exchange parity
exchange_parity p q [] h k a = absurd (omega arith)
exchange_parity p zero (x ∷ l) h k a = absurd (omega arith)
exchange_parity zero (suc q) (x ∷ l) h k a = fore_parity x l q (omega arith) a
exchange_parity (suc p) (suc q) (x ∷ l) h k a =
    ap (λ (b : Bool). differ b (parity (exchange 0 p q l))) (exchange_below x p q l (omega arith) (omega arith))
    ∙ ap (differ (odd_below x l)) (exchange_parity p q l (omega arith) (omega arith) a.1)
    ∙ differ_not (odd_below x l) (parity l)

-- ---- the order of a run

count_up-odd : (d k x : ℕ) → x < k → odd_below x (tabulate (λ j. j) d k) ≡ false
unfolding tabulate odd_below
count_up-odd zero k x h = refl
count_up-odd (suc d) k x h = rw (le-ltb k x (omega arith)) (count_up-odd d (suc k) x (omega arith))

count_up-parity : (d k : ℕ) → parity (tabulate (λ j. j) d k) ≡ false
unfolding tabulate parity
count_up-parity zero k = refl
count_up-parity (suc d) k = rw (count_up-odd d (suc k) k (omega arith)) (count_up-parity d (suc k))

-- a run whose order is a permutation with the parity of its swaps
abbrev pub Ordered : {B : Type 0} → ℕ → Run B → Type 0
Ordered n (going a p swaps) = Order n p × (parity p ≡ is_odd swaps)
Ordered n (singular c) = Unit {0}

-- the swaps of a run
abbrev pub swaps_in : {B : Type 0} → Run B → ℕ
swaps_in (going a p swaps) = swaps
swaps_in (singular c) = 0

bring_pivot-ordered : {B : Type 0} (d : B) (k n : ℕ) (b : Pivot) (i : ℕ) (a : List B) (p : List ℕ) (swaps : ℕ) → i ≤ b.row → b.row < n → Order n p × (parity p ≡ is_odd swaps) → Ordered n (bring_pivot d k b i a p swaps)
unfolding is_odd
bring_pivot-ordered d k n b i a p swaps l u o = pick (eq b.magnitude float.zero) refl
  where
    here : (t : Bool) → eqb b.row i ≡ t → eq b.magnitude float.zero ≡ false → Ordered n (bring_pivot d k b i a p swaps)
    here true e z = rw (bring_pivot-stays d k b i a p swaps z (eqb-true b.row i e)) o
    here false e z =
        let ne = eqb-false b.row i e in
        let h : i < b.row = omega arith in
        let s = o.0.size in
        rw (bring_pivot-moves d k b i a p swaps z ne) (
          exchange_order n i b.row p h u o.0,
          exchange_parity i b.row p h (omega arith) o.0.apart ∙ ap not o.1 ∙ sym (ap is_odd (add-one swaps)),
        )

    pick : (t : Bool) → eq b.magnitude float.zero ≡ t → Ordered n (bring_pivot d k b i a p swaps)
    pick true e = rw (bring_pivot-none d k b i a p swaps e) tt
    pick false e = here (eqb b.row i) refl e

module _ {R : Type 0} (A : Algebra R) (n : ℕ) where
  reduce_ordered : (i : ℕ) (r : Run R) → Ordered n r → Ordered n (reduce_run A n i r)
  reduce_ordered i (going a p swaps) o = o
  reduce_ordered i (singular c) o = tt

  column_ordered : (i : ℕ) (r : Run R) → i < n → Ordered n r → Ordered n (column A n i r)
  unfolding column
  column_ordered i (singular c) h o = tt
  column_ordered i (going a p swaps) h o =
      let b = pivot_row A n a i h in
      reduce_ordered i (bring_pivot (zero_of A) n (pivot_of A n a i) i a p swaps) (bring_pivot-ordered (zero_of A) n n (pivot_of A n a i) i a p swaps b.0 b.1 o)

  -- LU's order is a permutation of 0..n-1, and its parity is the swap count's
  pub lu_ordered : (a : List R) → Ordered n (lu_of A n a)
  unfolding lu_of is_odd
  lu_ordered a = upto_keep (Ordered n) (column A n) 0 n (λ i r l u o. column_ordered i r u o) (going a (count_up n) 0) (count_up-order n, count_up-parity n 0)

  -- a column counts at most one swap
  column_few : (i : ℕ) (r : Run R) → swaps_in r ≤ i → swaps_in (column A n i r) ≤ i + 1
  unfolding column bring_pivot
  column_few i (singular c) h = omega arith
  column_few i (going a p swaps) h = go (eq (pivot_of A n a i).magnitude float.zero) (eqb (pivot_of A n a i).row i)
    where
      go : (s t : Bool)
          → swaps_in (reduce_run A n i (cond s (singular i) (cond t (going a p swaps) (going (exchange_rows (zero_of A) n i (pivot_of A n a i).row a) (exchange 0 i (pivot_of A n a i).row p) (swaps + 1))))) ≤ i + 1
      go true t = omega arith
      go false true = omega arith
      go false false = omega arith

  -- LU counts at most n swaps
  pub lu_few : (a : List R) → swaps_in (lu_of A n a) ≤ n
  unfolding lu_of
  lu_few a = upto_reach (λ i r. swaps_in r ≤ i) (column A n) 0 n (omega arith) (λ i r l u h. column_few i r h) (going a (count_up n) 0) (omega arith)
