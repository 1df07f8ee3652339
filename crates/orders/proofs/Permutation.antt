-- Permutations of 0..n-1: the test is true of them exactly. Assumes nothing.
use Prim.Native.Nat.{ℕ, zero, suc, ◌<◌}
use mathlib.Core.Path.{◌≡◌, refl, sym, subst}
use mathlib.Core.Bool.{Bool, true, false, not, ◌&&◌}
use mathlib.Core.List.{List, [], ◌∷◌}
use native.Mathlib.Omega.{arith}
use lib.ListN.{length, get_or}
use lib.Dec.{ltb, eqb}
use borrow.Author.Tests.{lt-ltb, ltb-true, eqb-false, ne_eqb}
use Rattle.orders.specs.Order.{All, Distinct, Order, absent, is_order}

-- of All P, at one place
pub all_at : (P : ℕ → Type 0) (l : List ℕ) (q : ℕ) → q < length l → All P l → P (get_or l q 0)
all_at P [] q h a = absurd (omega arith)
all_at P (y ∷ l) zero h a = a.0
all_at P (y ∷ l) (suc q) h a = all_at P l q (omega arith) a.1

-- an entry of a permutation is below n
pub order_below : (n : ℕ) (p : List ℕ) → Order n p → (k : ℕ) → k < n → get_or p k 0 < n
order_below n p o k h = all_at (λ v. v < n) p k (let z = o.size in omega arith) o.below

-- ---- the test is true of permutations exactly

pub both : (a b : Bool) → (a && b) ≡ true → (a ≡ true) × (b ≡ true)
both true b e = (refl, e)
both false b e = absurd (let z : ◌≡◌ {A = Bool} false true = e in false_true z)
  where
    family : Bool → Type 0
    family true = ⊥
    family false = Unit {0}

    false_true : false ≡ true → ⊥
    false_true z = subst family z tt

not_not_true : (a : Bool) → not a ≡ true → a ≡ false
not_not_true true e = sym e
not_not_true false e = refl

absent_all : (x : ℕ) (l : List ℕ) → absent x l ≡ true → All (λ y. x ≡ y → ⊥) l
unfolding absent
absent_all x [] e = tt
absent_all x (y ∷ l) e = let b = both (not (eqb x y)) (absent x l) e in (eqb-false x y (not_not_true (eqb x y) b.0), absent_all x l b.1)

all_absent : (x : ℕ) (l : List ℕ) → All (λ y. x ≡ y → ⊥) l → absent x l ≡ true
unfolding absent
all_absent x [] a = refl
all_absent x (y ∷ l) a = rw (ne_eqb x y a.0, all_absent x l a.1) refl

-- a list of n numbers that passes is a permutation of 0..n-1
pub is_order-order : (n : ℕ) (p : List ℕ) → length p ≡ n → is_order n p ≡ true → Order n p
unfolding is_order
is_order-order n p h e = record { size = h; below = below p e; apart = apart p e }
  where
    below : (l : List ℕ) → is_order n l ≡ true → All (λ v. v < n) l
    below [] e = tt
    below (x ∷ l) e = let b = both (ltb x n) (absent x l && is_order n l) e in (ltb-true x n b.0, below l (both (absent x l) (is_order n l) b.1).1)

    apart : (l : List ℕ) → is_order n l ≡ true → Distinct l
    apart [] e = tt
    apart (x ∷ l) e =
        let b = both (absent x l) (is_order n l) (both (ltb x n) (absent x l && is_order n l) e).1 in
        (absent_all x l b.0, apart l b.1)

-- a permutation of 0..n-1 passes
pub order-is_order : (n : ℕ) (p : List ℕ) → Order n p → is_order n p ≡ true
unfolding is_order
order-is_order n p o = go p o.below o.apart
  where
    go : (l : List ℕ) → All (λ v. v < n) l → Distinct l → is_order n l ≡ true
    go [] b d = refl
    go (x ∷ l) b d = rw (lt-ltb x n b.0, all_absent x l d.0, go l b.1 d.1) refl
