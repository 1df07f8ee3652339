-- What the four entries answer and leave, over any record in flat floats: document 01's refusals in its order, then the work. Definitions only.
use Rattle.std.specs.Prelude.{ℕ, ◌*◌, Bool, cond, ◌&&◌, ◌||◌, List, ltb, eqb, length, replicate, Float}
use Rattle.refusals.specs.Largest as largest
use Rattle.refusals.specs.Number as refusal
use Rattle.real.specs.Operations as float
use Rattle.algebra.specs.Algebra.{Algebra}
use Rattle.algebra.specs.Flat.{Layout, decode, encode}
use Rattle.algebra.specs.Outcome.{Outcome, value, refused}
use Rattle.matrices.specs.Lu.{Run, going, singular, lu_of}
use Rattle.matrices.specs.Solve.{solve_of}
use Rattle.matrices.specs.Determinant.{determinant_of}
use Rattle.matrices.specs.Inverse.{inverse_of}
use Rattle.orders.specs.Order.{is_order, parity, is_odd, differ}

-- The first refusal that applies, by its number; 0 where none does. A record has w floats; of a lent buffer that is only measured the length is given.

-- of LU. 1: n above 32; 2: a lent length is not the one wanted
abbrev pub lu_refusal : ℕ → ℕ → ℕ → ℕ → ℕ → ℕ
lu_refusal w n a factors order =
    cond (ltb largest.n n) refusal.too_large
    (cond (eqb a (n * n * w) && (eqb factors (n * n * w) && eqb order n)) 0 refusal.wrong_length)

-- 7: the order is no permutation of 0..n-1
abbrev pub order_refusal : ℕ → List ℕ → ℕ
order_refusal n order = cond (is_order n order) 0 refusal.not_an_order

-- 8: the swap count is above 32, or of the other parity than an order that is odd or not
abbrev pub count_refusal : Bool → ℕ → ℕ
count_refusal odd swaps = cond (ltb largest.swaps swaps || differ (is_odd swaps) odd) refusal.wrong_swaps 0

-- 8, beside that order
abbrev pub swaps_refusal : List ℕ → ℕ → ℕ
swaps_refusal order swaps = count_refusal (parity order) swaps

-- of solve. 1, 2, then 7
abbrev pub solve_refusal : ℕ → ℕ → ℕ → List ℕ → ℕ → ℕ → ℕ
solve_refusal w n factors order b x =
    cond (ltb largest.n n) refusal.too_large
    (cond (eqb factors (n * n * w) && (eqb (length order) n && (eqb b (n * w) && eqb x (n * w)))) (order_refusal n order) refusal.wrong_length)

-- of inverse. 1, 2, then 7
abbrev pub inverse_refusal : ℕ → ℕ → ℕ → List ℕ → ℕ → ℕ
inverse_refusal w n factors order out =
    cond (ltb largest.n n) refusal.too_large
    (cond (eqb factors (n * n * w) && (eqb (length order) n && eqb out (n * n * w))) (order_refusal n order) refusal.wrong_length)

-- of determinant. 1, 2, 7, then 8
abbrev pub determinant_refusal : ℕ → ℕ → ℕ → List ℕ → ℕ → ℕ
determinant_refusal w n factors order swaps =
    cond (ltb largest.n n) refusal.too_large
    (cond (eqb factors (n * n * w) && eqb (length order) n) (cond (is_order n order) (swaps_refusal order swaps) refusal.not_an_order) refusal.wrong_length)

-- what a call of LU leaves: done with the swap count or refused by a number, the column beside it, and both buffers
pub record LuLeft : Type 0 where
  pub answer : Outcome ℕ
  pub column : ℕ
  pub factors : List Float
  pub order : List ℕ

abbrev pub lu_answered : Outcome ℕ → ℕ → List Float → List ℕ → LuLeft
lu_answered r c f p = record { answer = r; column = c; factors = f; order = p }

-- what a call of solve or inverse leaves: done, or refused by a number, and the result's buffer
pub record SolveLeft : Type 0 where
  pub answer : Outcome (Unit {0})
  pub result : List Float

abbrev pub solve_answered : Outcome (Unit {0}) → List Float → SolveLeft
solve_answered r x = record { answer = r; result = x }

module _ {R : Type 0} (A : Algebra R) (L : Layout R) (n : ℕ) where
  -- how a run ends: 6 with its column leaves both buffers zero
  abbrev pub lu_finish : Run R → LuLeft
  lu_finish (going a p swaps) = lu_answered (value swaps) 0 (encode L a) p
  lu_finish (singular c) = lu_answered (refused refusal.singular) c (replicate (n * n * L.width) float.zero) (replicate n 0)

  -- lu(n, a, factors, order)
  unfoldable pub lu_left : List Float → List Float → List ℕ → LuLeft
  lu_left a factors order =
      let number = lu_refusal L.width n (length a) (length factors) (length order) in
      cond (eqb number 0) (lu_finish (lu_of A n (decode L a))) (lu_answered (refused number) 0 factors order)

  -- solve(n, factors, order, b, x)
  unfoldable pub solve_left : List Float → List ℕ → List Float → List Float → SolveLeft
  solve_left factors order b x =
      let number = solve_refusal L.width n (length factors) order (length b) (length x) in
      cond (eqb number 0) (solve_answered (value tt) (encode L (solve_of A n (decode L factors) order (decode L b)))) (solve_answered (refused number) x)

  -- inverse(n, factors, order, out)
  unfoldable pub inverse_left : List Float → List ℕ → List Float → SolveLeft
  inverse_left factors order out =
      let number = inverse_refusal L.width n (length factors) order (length out) in
      cond (eqb number 0) (solve_answered (value tt) (encode L (inverse_of A n (decode L factors) order))) (solve_answered (refused number) out)

  -- determinant(n, factors, order, swaps)
  unfoldable pub determinant_left : List Float → List ℕ → ℕ → Outcome R
  determinant_left factors order swaps =
      let number = determinant_refusal L.width n (length factors) order swaps in
      cond (eqb number 0) (value (determinant_of A n (decode L factors) swaps)) (refused number)
