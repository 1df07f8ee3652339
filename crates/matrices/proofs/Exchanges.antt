-- Orders of the rows: exchanges keep a permutation, and 0, 1, .., n - 1 is one. Assumes nothing.
use Prim.Native.Nat.{ℕ, zero, suc, ◌+◌, ◌≤◌, ◌<◌}
use mathlib.Core.Path.{◌≡◌, sym, ◌∙◌}
use mathlib.Core.List.{List, [], ◌∷◌}
use native.Mathlib.Omega.{arith}
use lib.ListN.{length, get_or, set, length-set}
use Rattle.algebra.specs.Flat.{tabulate}
use Rattle.algebra.proofs.Flat.{tabulate_length}
use Rattle.orders.specs.Order.{All, Distinct, Order}
use Rattle.matrices.specs.Matrix.{exchange}
use Rattle.matrices.specs.Lu.{count_up}

-- ---- exchange of the first element with a later one: `get_or l q 0 ∷ set l q x` for `x ∷ l`

abbrev pub fore : ℕ → List ℕ → ℕ → List ℕ
fore x l q = get_or l q 0 ∷ set l q x

pub fore_all : (P : ℕ → Type 0) (x : ℕ) (l : List ℕ) (q : ℕ) → q < length l → All P (x ∷ l) → All P (fore x l q)
fore_all P x [] q h a = absurd (omega arith)
fore_all P x (y ∷ l) zero h a = (a.1.0, (a.0, a.1.1))
fore_all P x (y ∷ l) (suc q) h a =
    let r = fore_all P x l q (omega arith) (a.0, a.1.1) in
    (r.0, (a.1.0, r.1))

fore_distinct : (x : ℕ) (l : List ℕ) (q : ℕ) → q < length l → Distinct (x ∷ l) → Distinct (fore x l q)
fore_distinct x [] q h a = absurd (omega arith)
fore_distinct x (y ∷ l) zero h a = (((λ e. a.0.0 (sym e)), a.1.0), (a.0.1, a.1.1))
fore_distinct x (y ∷ l) (suc q) h a =
    let w = get_or l q 0 in
    let r = fore_distinct x l q (omega arith) (a.0.1, a.1.1) in
    let away = fore_all (λ v. y ≡ v → ⊥) x l q (omega arith) ((λ e. a.0.0 (sym e)), a.1.0) in
    (((λ e. away.0 (sym e)), r.0), (away.1, r.1))

-- ---- exchange of two places

exchange_all : (P : ℕ → Type 0) (p q : ℕ) (l : List ℕ) → p < q → q < length l → All P l → All P (exchange 0 p q l)
unfolding exchange
exchange_all P p q [] h k a = absurd (omega arith)
exchange_all P p zero (x ∷ l) h k a = absurd (omega arith)
exchange_all P zero (suc q) (x ∷ l) h k a = fore_all P x l q (omega arith) a
exchange_all P (suc p) (suc q) (x ∷ l) h k a = (a.0, exchange_all P p q l (omega arith) (omega arith) a.1)

exchange_distinct : (p q : ℕ) (l : List ℕ) → p < q → q < length l → Distinct l → Distinct (exchange 0 p q l)
unfolding exchange
exchange_distinct p q [] h k a = absurd (omega arith)
exchange_distinct p zero (x ∷ l) h k a = absurd (omega arith)
exchange_distinct zero (suc q) (x ∷ l) h k a = fore_distinct x l q (omega arith) a
exchange_distinct (suc p) (suc q) (x ∷ l) h k a =
    (exchange_all (λ y. x ≡ y → ⊥) p q l (omega arith) (omega arith) a.0, exchange_distinct p q l (omega arith) (omega arith) a.1)

pub exchange_order : (n p q : ℕ) (o : List ℕ) → p < q → q < n → Order n o → Order n (exchange 0 p q o)
unfolding exchange
exchange_order n p q o h k r =
    let z = r.size in
    record {
      size = length-set (set o p (get_or o q 0)) q (get_or o p 0) ∙ length-set o p (get_or o q 0) ∙ r.size;
      below = exchange_all (λ v. v < n) p q o h (omega arith) r.below;
      apart = exchange_distinct p q o h (omega arith) r.apart;
    }

-- ---- 0, 1, .., n - 1

count_up-above : (d k x : ℕ) → x < k → All (λ y. x ≡ y → ⊥) (tabulate (λ j. j) d k)
unfolding tabulate
count_up-above zero k x h = tt
count_up-above (suc d) k x h = ((λ e. omega arith), count_up-above d (suc k) x (omega arith))

count_up-below : (d k n : ℕ) → k + d ≤ n → All (λ v. v < n) (tabulate (λ j. j) d k)
unfolding tabulate
count_up-below zero k n h = tt
count_up-below (suc d) k n h = (omega arith, count_up-below d (suc k) n (omega arith))

count_up-distinct : (d k : ℕ) → Distinct (tabulate (λ j. j) d k)
unfolding tabulate
count_up-distinct zero k = tt
count_up-distinct (suc d) k = (count_up-above d (suc k) k (omega arith), count_up-distinct d (suc k))

pub count_up-order : (n : ℕ) → Order n (count_up n)
count_up-order n = record { size = tabulate_length (λ j. j) n 0; below = count_up-below n 0 n (omega arith); apart = count_up-distinct n 0 }
