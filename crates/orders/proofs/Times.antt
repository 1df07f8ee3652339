-- How often a number comes in a list. Of n numbers below n, each comes once, or one of them never does; in a permutation each does. Assumes nothing.
use Prim.Native.Nat.{ℕ, zero, suc, ◌+◌, ◌≤◌, ◌<◌}
use mathlib.Core.Path.{◌≡◌, refl, ap, sym, ◌∙◌, subst}
use mathlib.Core.Bool.{Bool, true, false, not, cond, ◌&&◌}
use mathlib.Core.List.{List, [], ◌∷◌}
use native.Mathlib.Decide.{dec_lt, ℕ_discrete}
use native.Mathlib.Omega.{arith}
use lib.Dec.{ltb, eqb}
use lib.ListN.{length, get_or}
use borrow.Author.Tests.{lt-ltb, le-ltb, ltb-true, eq-eqb, ne_eqb}
use Rattle.orders.specs.Order.{Order, absent, is_order, differ, is_odd}
use Rattle.orders.proofs.Permutation.{both, order-is_order}

-- how often x comes
times : ℕ → List ℕ → ℕ
times x [] = 0
times x (y ∷ l) = cond (eqb y x) 1 0 + times x l

-- whether x comes an odd number of times
unfoldable pub oddly : ℕ → List ℕ → Bool
oddly x [] = false
oddly x (y ∷ l) = differ (eqb y x) (oddly x l)

-- every number is below n
unfoldable pub all_below : ℕ → List ℕ → Bool
all_below n [] = true
all_below n (y ∷ l) = ltb y n && all_below n l

odd_times : (x : ℕ) (l : List ℕ) → oddly x l ≡ is_odd (times x l)
unfolding oddly times is_odd
odd_times x [] = refl
odd_times x (y ∷ l) = go (eqb y x) (oddly x l) (times x l) (odd_times x l)
  where
    go : (t o : Bool) (k : ℕ) → o ≡ is_odd k → differ t o ≡ is_odd (cond t 1 0 + k)
    go true o k e = ap not e ∙ (let one : 1 + k ≡ suc k = omega arith in ap is_odd (sym one))
    go false o k e = e ∙ (let none : 0 + k ≡ k = omega arith in ap is_odd (sym none))

-- ---- the sum over the numbers below n

sum_to : (ℕ → ℕ) → ℕ → ℕ
sum_to f zero = 0
sum_to f (suc n) = f n + sum_to f n

sum_zero : (n : ℕ) → sum_to (λ x. times x []) n ≡ 0
unfolding sum_to times
sum_zero zero = refl
sum_zero (suc n) = let e = sum_zero n in omega arith

one_more_lem : (y n : ℕ) → cond (eqb y n) 1 0 + cond (ltb y n) 1 0 ≡ cond (ltb y (suc n)) 1 0
one_more_lem y n = go (dec_lt y n) (ℕ_discrete y n)
  where
    go : Dec (y < n) → Dec (y ≡ n) → cond (eqb y n) 1 0 + cond (ltb y n) 1 0 ≡ cond (ltb y (suc n)) 1 0
    go (yes h) (yes e) = absurd (omega arith)
    go (yes h) (no e) = rw (ne_eqb y n e, lt-ltb y n h, lt-ltb y (suc n) (omega arith)) refl
    go (no h) (yes e) = rw (eq-eqb y n e, le-ltb y n (omega arith), lt-ltb y (suc n) (omega arith)) refl
    go (no h) (no e) = rw (ne_eqb y n e, le-ltb y n (omega arith), le-ltb y (suc n) (omega arith)) refl

sum_more : (y : ℕ) (l : List ℕ) (n : ℕ) → sum_to (λ x. times x (y ∷ l)) n ≡ cond (ltb y n) 1 0 + sum_to (λ x. times x l) n
unfolding sum_to times
sum_more y l zero = rw (le-ltb y 0 (omega arith)) refl
sum_more y l (suc n) =
    let e = sum_more y l n in
    let d = one_more_lem y n in
    omega arith

-- as many as the list is long
sum_all : (n : ℕ) (l : List ℕ) → all_below n l ≡ true → sum_to (λ x. times x l) n ≡ length l
unfolding all_below
sum_all n [] h = sum_zero n
sum_all n (y ∷ l) h =
    let p = both (ltb y n) (all_below n l) h in
    let rest = sum_all n l p.1 in
    sum_more y l n ∙ ap (λ (t : Bool). cond t 1 0 + sum_to (λ x. times x l) n) p.0 ∙ omega arith

sum_least : (f : ℕ → ℕ) (n : ℕ) → ((x : ℕ) → x < n → 1 ≤ f x) → n ≤ sum_to f n
unfolding sum_to
sum_least f zero h = omega arith
sum_least f (suc n) h =
    let p = h n (omega arith) in
    let q = sum_least f n (λ x u. h x (omega arith)) in
    omega arith

sum_most : (f : ℕ → ℕ) (n : ℕ) → ((x : ℕ) → x < n → f x ≤ 1) → sum_to f n ≤ n
unfolding sum_to
sum_most f zero h = omega arith
sum_most f (suc n) h =
    let p = h n (omega arith) in
    let q = sum_most f n (λ x u. h x (omega arith)) in
    omega arith

-- n of them, none without one: one each
once_from_least : (f : ℕ → ℕ) (n : ℕ) → ((x : ℕ) → x < n → 1 ≤ f x) → sum_to f n ≡ n → (x : ℕ) → x < n → f x ≡ 1
unfolding sum_to
once_from_least f zero h e x u = absurd (omega arith)
once_from_least f (suc n) h e x u =
    go (ℕ_discrete n x) (h n (omega arith)) (sum_least f n (λ y v. h y (omega arith)))
    (λ d v. once_from_least f n (λ y t. h y (omega arith)) d x v)
  where
    go : Dec (n ≡ x) → 1 ≤ f n → n ≤ sum_to f n → (sum_to f n ≡ n → x < n → f x ≡ 1) → f x ≡ 1
    go (yes d) p q below = ap f (sym d) ∙ omega arith
    go (no d) p q below = below (omega arith) (omega arith)

-- n of them, none with two: one each
once_from_most : (f : ℕ → ℕ) (n : ℕ) → ((x : ℕ) → x < n → f x ≤ 1) → sum_to f n ≡ n → (x : ℕ) → x < n → f x ≡ 1
unfolding sum_to
once_from_most f zero h e x u = absurd (omega arith)
once_from_most f (suc n) h e x u =
    go (ℕ_discrete n x) (h n (omega arith)) (sum_most f n (λ y v. h y (omega arith)))
    (λ d v. once_from_most f n (λ y t. h y (omega arith)) d x v)
  where
    go : Dec (n ≡ x) → f n ≤ 1 → sum_to f n ≤ n → (sum_to f n ≡ n → x < n → f x ≡ 1) → f x ≡ 1
    go (yes d) p q below = ap f (sym d) ∙ omega arith
    go (no d) p q below = below (omega arith) (omega arith)

-- ---- when a list of numbers below n is an order

absent_never : (x : ℕ) (l : List ℕ) → absent x l ≡ true → times x l ≡ 0
unfolding absent times
absent_never x [] h = refl
absent_never x (y ∷ l) h =
    let p = both (not (eqb x y)) (absent x l) h in
    go (ℕ_discrete y x) p.0 (absent_never x l p.1)
  where
    go : Dec (y ≡ x) → not (eqb x y) ≡ true → times x l ≡ 0 → cond (eqb y x) 1 0 + times x l ≡ 0
    go (yes e) q r = absurd_of (ap not (sym (eq-eqb x y (sym e))) ∙ q)
      where
        absurd_of : false ≡ true → cond (eqb y x) 1 0 + times x l ≡ 0
        absurd_of z = ap (λ (t : Bool). cond t 0 (cond (eqb y x) 1 0 + times x l)) z
    go (no e) q r = rw (ne_eqb y x e) (let z = r in omega arith)

never_absent : (x : ℕ) (l : List ℕ) → times x l ≡ 0 → absent x l ≡ true
unfolding absent times
never_absent x [] h = refl
never_absent x (y ∷ l) h = go (ℕ_discrete y x) h (never_absent x l)
  where
    go : Dec (y ≡ x) → cond (eqb y x) 1 0 + times x l ≡ 0 → (times x l ≡ 0 → absent x l ≡ true) → (not (eqb x y) && absent x l) ≡ true
    go (yes e) q r = absurd (let z = ap (λ (t : Bool). cond t 1 0 + times x l) (sym (eq-eqb y x e)) ∙ q in omega arith)
    go (no e) q r = rw (ne_eqb x y (λ z. e (sym z))) (r (let z = ap (λ (t : Bool). cond t 1 0 + times x l) (sym (ne_eqb y x e)) ∙ q in omega arith))

-- what an order holds, it holds once
order_once : (n : ℕ) (l : List ℕ) → is_order n l ≡ true → (x : ℕ) → times x l ≤ 1
unfolding is_order times
order_once n [] h x = omega arith
order_once n (y ∷ l) h x =
    let p = both (ltb y n) (absent y l && is_order n l) h in
    let q = both (absent y l) (is_order n l) p.1 in
    go (ℕ_discrete y x) (absent_never y l q.0) (order_once n l q.1 x)
  where
    go : Dec (y ≡ x) → times y l ≡ 0 → times x l ≤ 1 → cond (eqb y x) 1 0 + times x l ≤ 1
    go (yes e) never most = rw (eq-eqb y x e) (let z = ap (λ (k : ℕ). times k l) (sym e) ∙ never in omega arith)
    go (no e) never most = rw (ne_eqb y x e) (omega arith)

once_order : (n : ℕ) (l : List ℕ) → all_below n l ≡ true → ((x : ℕ) → times x l ≤ 1) → is_order n l ≡ true
unfolding is_order times all_below
once_order n [] h f = refl
once_order n (y ∷ l) h f =
    let p = both (ltb y n) (all_below n l) h in
    let e = ap (λ (t : Bool). cond t 1 0 + times y l) (eq-eqb y y refl) in
    let u = f y in
    let never : times y l ≡ 0 = omega arith in
    let rest = once_order n l p.1 (λ x. let v = f x in omega arith) in
    rw (p.0, never_absent y l never, rest) refl

pub order_all_below : (n : ℕ) (l : List ℕ) → is_order n l ≡ true → all_below n l ≡ true
unfolding is_order all_below
order_all_below n [] h = refl
order_all_below n (y ∷ l) h =
    let p = both (ltb y n) (absent y l && is_order n l) h in
    let q = both (absent y l) (is_order n l) p.1 in
    rw (p.0, order_all_below n l q.1) refl

-- what is not below n never comes
past_never : (n : ℕ) (l : List ℕ) → all_below n l ≡ true → (x : ℕ) → n ≤ x → times x l ≡ 0
unfolding all_below times
past_never n [] h x u = refl
past_never n (y ∷ l) h x u =
    let p = both (ltb y n) (all_below n l) h in
    let less = ltb-true y n p.0 in
    let rest = past_never n l p.1 x u in
    rw (ne_eqb y x (λ z. omega arith)) (omega arith)

module _ (n : ℕ) (l : List ℕ) (below : all_below n l ≡ true) (long : length l ≡ n) where
  total : sum_to (λ x. times x l) n ≡ n
  total = sum_all n l below ∙ long

  -- in an order the numbers below n come oddly often, and no others
  pub order_oddly : is_order n l ≡ true → (x : ℕ) → oddly x l ≡ ltb x n
  unfolding is_odd
  order_oddly h x = odd_times x l ∙ go (dec_lt x n)
    where
      go : Dec (x < n) → is_odd (times x l) ≡ ltb x n
      go (yes u) = ap is_odd (once_from_most (λ y. times y l) n (λ y v. order_once n l h y) total x u) ∙ sym (lt-ltb x n u)
      go (no u) = ap is_odd (past_never n l below x (omega arith)) ∙ sym (le-ltb x n (omega arith))

  -- where all numbers below n do, it is an order
  pub oddly_order : ((x : ℕ) → x < n → oddly x l ≡ true) → is_order n l ≡ true
  unfolding is_odd
  oddly_order f = once_order n l below (λ x. most x (dec_lt x n))
    where
      some : (k : ℕ) → is_odd k ≡ true → 1 ≤ k
      some zero e = absurd_of e
        where
          absurd_of : false ≡ true → 1 ≤ 0
          absurd_of z = subst (λ (t : Bool). cond t (1 ≤ 0) (Unit {0})) z tt
      some (suc k) e = omega arith

      most : (x : ℕ) → Dec (x < n) → times x l ≤ 1
      most x (yes u) = let e = once_from_least (λ y. times y l) n (λ y v. some (times y l) (sym (odd_times y l) ∙ f y v)) total x u in omega arith
      most x (no u) = let e = past_never n l below x (omega arith) in omega arith

-- where a number that comes stands
place : (x : ℕ) (l : List ℕ) → 1 ≤ times x l → (k : ℕ) × ((k < length l) × (get_or l k 0 ≡ x))
unfolding times
place x [] h = absurd (omega arith)
place x (y ∷ l) h = go (ℕ_discrete y x) (place x l)
  where
    go : Dec (y ≡ x) → (1 ≤ times x l → (k : ℕ) × ((k < length l) × (get_or l k 0 ≡ x))) → (k : ℕ) × ((k < suc (length l)) × (get_or (y ∷ l) k 0 ≡ x))
    go (yes e) later = (0, (omega arith, e))
    go (no e) later =
        let p = later (let z = ap (λ (t : Bool). cond t 1 0 + times x l) (ne_eqb y x e) in omega arith) in
        let b = p.1.0 in
        (suc p.0, (omega arith, p.1.1))

-- each number below n is an entry of a permutation of 0..n-1
pub order_occurs : (n : ℕ) (p : List ℕ) → Order n p → (v : ℕ) → v < n → (k : ℕ) × ((k < n) × (get_or p k 0 ≡ v))
order_occurs n p o v h =
    let is = order-is_order n p o in
    let once = once_from_most (λ x. times x p) n (λ x u. order_once n p is x) (sum_all n p (order_all_below n p is) ∙ o.size) v h in
    let found = place v p (omega arith) in
    (found.0, (subst (λ (k : ℕ). found.0 < k) o.size found.1.0, found.1.1))
