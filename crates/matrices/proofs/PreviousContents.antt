-- What an entry leaves, by the two cases of its refusal: what a result buffer held before has no effect, a refusal writes nothing, and 6 leaves zeros. Assumes nothing.
use Prim.Native.Nat.{ℕ, ◌*◌}
use mathlib.Core.Path.{◌≡◌, refl, sym}
use mathlib.Core.Bool.{Bool, true, false, cond, ◌&&◌}
use mathlib.Core.List.{List}
use native.Mathlib.Omega.{arith}
use lib.Dec.{ltb, eqb}
use lib.ListN.{length, replicate}
use lib.Ieee.{Float}
use Rattle.refusals.specs.Number as refusal
use Rattle.real.specs.Operations as float
use Rattle.refusals.specs.Largest as largest
use Rattle.algebra.specs.Algebra.{Algebra}
use Rattle.algebra.specs.Flat.{Layout, decode}
use Rattle.algebra.specs.Outcome.{value, refused}
use Rattle.matrices.specs.Entries.{solve_refusal, inverse_refusal, LuLeft, lu_answered, SolveLeft, solve_answered, lu_finish, lu_left, solve_left, inverse_left}
use Rattle.matrices.specs.Lu.{Run, going, singular, lu_of}
use Rattle.orders.specs.Order.{is_order}
use Rattle.matrices.specs.PreviousContents.{EqualLu, EqualSolve}
use Rattle.matrices.proofs.Answers.{not_both, number_one, never_six, lu_cases}

module _ {R : Type 0} (A : Algebra R) (L : Layout R) (n : ℕ) where
  -- whatever the result's buffers held
  pub lu_equal : (a f f' : List Float) (p p' : List ℕ) → length f ≡ length f' → length p ≡ length p' → EqualLu (lu_left A L n a f p) (lu_left A L n a f' p')
  unfolding lu_left
  lu_equal a f f' p p' hf hp =
      rw (hf, hp) (go (ltb largest.n n) (eqb (length a) (n * n * L.width) && (eqb (length f') (n * n * L.width) && eqb (length p') n)) (lu_finish A L n (lu_of A n (decode L a))))
    where
      left : List Float → List ℕ → ℕ → LuLeft → LuLeft
      left g q k x = cond (eqb k 0) x (lu_answered (refused k) 0 g q)

      go : (s t : Bool) (x : LuLeft) → EqualLu (left f p (cond s 1 (cond t 0 2)) x) (left f' p' (cond s 1 (cond t 0 2)) x)
      go true t x = record { answer = refl; column = refl; written = λ w. absurd (omega arith) }
      go false false x = record { answer = refl; column = refl; written = λ w. absurd (omega arith) }
      go false true x = record { answer = refl; column = refl; written = λ w. refl }

  -- refused by another number than 6
  pub lu_kept : (a f : List Float) (p : List ℕ) (number : ℕ) → (number ≡ 6 → ⊥) → (lu_left A L n a f p).answer ≡ refused number
      → ((lu_left A L n a f p).column ≡ 0) × (((lu_left A L n a f p).factors ≡ f) × ((lu_left A L n a f p).order ≡ p))
  lu_kept a f p number h =
      lu_cases A L n a f p (λ l. l.answer ≡ refused number → (l.column ≡ 0) × ((l.factors ≡ f) × (l.order ≡ p))) (λ e. (refl, (refl, refl))) (λ e. (refl, (refl, refl)))
      (λ t. finish (lu_of A n (decode L a)))
    where
      finish : (r : Run R) → (lu_finish A L n r).answer ≡ refused number → ((lu_finish A L n r).column ≡ 0) × (((lu_finish A L n r).factors ≡ f) × ((lu_finish A L n r).order ≡ p))
      finish (going m q k) e = absurd (not_both e)
      finish (singular c) e = absurd (h (sym (number_one e)))

  -- refused 6
  pub lu_zero : (a f : List Float) (p : List ℕ) → (lu_left A L n a f p).answer ≡ refused refusal.singular
      → ((lu_left A L n a f p).factors ≡ replicate (n * n * L.width) float.zero) × ((lu_left A L n a f p).order ≡ replicate n 0)
  lu_zero a f p =
      lu_cases A L n a f p (λ l. l.answer ≡ refused refusal.singular → (l.factors ≡ replicate (n * n * L.width) float.zero) × (l.order ≡ replicate n 0))
      (λ e. absurd (let z = number_one e in omega arith)) (λ e. absurd (let z = number_one e in omega arith)) (λ t. finish (lu_of A n (decode L a)))
    where
      finish : (r : Run R) → (lu_finish A L n r).answer ≡ refused refusal.singular → ((lu_finish A L n r).factors ≡ replicate (n * n * L.width) float.zero) × ((lu_finish A L n r).order ≡ replicate n 0)
      finish (going m q k) e = absurd (not_both e)
      finish (singular c) e = (refl, refl)

-- an entry that fills one buffer
filled : ℕ → List Float → List Float → SolveLeft
filled k y x = cond (eqb k 0) (solve_answered (value tt) y) (solve_answered (refused k) x)

filled_equal : (k : ℕ) (y x x' : List Float) → (k ≡ 6 → ⊥) → EqualSolve (filled k y x) (filled k y x')
unfolding filled
filled_equal k y x x' h = go (eqb k 0)
  where
    go : (t : Bool) → EqualSolve (cond t (solve_answered (value tt) y) (solve_answered (refused k) x)) (cond t (solve_answered (value tt) y) (solve_answered (refused k) x'))
    go true = record { answer = refl; written = λ w. refl }
    go false = record { answer = refl; written = λ w. absurd (h w) }

filled_kept : (k : ℕ) (y x : List Float) (number : ℕ) → (filled k y x).answer ≡ refused number → (filled k y x).result ≡ x
unfolding filled
filled_kept k y x number e = go (eqb k 0) e
  where
    go : (t : Bool) → (cond t (solve_answered (value tt) y) (solve_answered (refused k) x)).answer ≡ refused number → (cond t (solve_answered (value tt) y) (solve_answered (refused k) x)).result ≡ x
    go true e = absurd (not_both e)
    go false e = refl

module _ {R : Type 0} (A : Algebra R) (L : Layout R) (n : ℕ) where
  pub solve_equal : (f : List Float) (p : List ℕ) (b x x' : List Float) → length x ≡ length x' → EqualSolve (solve_left A L n f p b x) (solve_left A L n f p b x')
  unfolding solve_left filled
  solve_equal f p b x x' h =
      rw h (filled_equal (solve_refusal L.width n (length f) p (length b) (length x')) _ x x'
      (never_six (ltb largest.n n) (eqb (length f) (n * n * L.width) && (eqb (length p) n && (eqb (length b) (n * L.width) && eqb (length x') (n * L.width)))) (is_order n p)))

  pub solve_kept : (f : List Float) (p : List ℕ) (b x : List Float) (number : ℕ) → (solve_left A L n f p b x).answer ≡ refused number → (solve_left A L n f p b x).result ≡ x
  unfolding solve_left filled
  solve_kept f p b x number e = filled_kept (solve_refusal L.width n (length f) p (length b) (length x)) _ x number e

  pub inverse_equal : (f : List Float) (p : List ℕ) (x x' : List Float) → length x ≡ length x' → EqualSolve (inverse_left A L n f p x) (inverse_left A L n f p x')
  unfolding inverse_left filled
  inverse_equal f p x x' h =
      rw h (filled_equal (inverse_refusal L.width n (length f) p (length x')) _ x x'
      (never_six (ltb largest.n n) (eqb (length f) (n * n * L.width) && (eqb (length p) n && eqb (length x') (n * n * L.width))) (is_order n p)))

  pub inverse_kept : (f : List Float) (p : List ℕ) (x : List Float) (number : ℕ) → (inverse_left A L n f p x).answer ≡ refused number → (inverse_left A L n f p x).result ≡ x
  unfolding inverse_left filled
  inverse_kept f p x number e = filled_kept (inverse_refusal L.width n (length f) p (length x)) _ x number e
