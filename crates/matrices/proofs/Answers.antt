-- The entries over any record: which facts a call that is not refused may take for granted, and demand 3 of what two calls leave. Assumes nothing.
use Prim.Native.Nat.{ℕ, suc, ◌*◌, ◌≤◌}
use mathlib.Core.Path.{◌≡◌, refl, ap, sym, ◌∙◌}
use mathlib.Core.Bool.{Bool, true, false, cond, ◌&&◌}
use mathlib.Core.List.{List, map}
use native.Mathlib.Omega.{arith}
use lib.Dec.{ltb, eqb}
use lib.ListN.{length, replicate}
use lib.Ieee.{Float}
use borrow.Author.Tests.{le-ltb, ltb-false, eqb-true, eq-eqb, ne_eqb}
use Rattle.real.specs.Operations as float
use Rattle.refusals.specs.Largest as largest
use Rattle.std.specs.Prelude.{Result, Ok, Err}
use Rattle.refusals.specs.Number as refusal
use Rattle.refusals.specs.Refused.{number, answer_number}
use Rattle.refusals.specs.declared.Refusal.{Refusal}
use Rattle.refusals.proofs.Numbers.{number_positive}
use Rattle.algebra.specs.Algebra.{Algebra, RealParts, reals}
use Rattle.algebra.specs.Flat.{Layout, Lawful, Agrees, real_parts, decode, encode}
use Rattle.algebra.specs.Outcome.{Outcome, value, refused, map_outcome}
use Rattle.algebra.proofs.Flat.{decode_reals, encode_decode, encode_reals}
use Rattle.matrices.specs.Entries.{lu_refusal, order_refusal, swaps_refusal, solve_refusal, inverse_refusal, determinant_refusal, LuLeft, lu_answered, solve_answered, lu_finish, lu_left, solve_left, inverse_left, determinant_left}
use Rattle.matrices.specs.Determinant.{determinant_of}
use Rattle.matrices.specs.Inverse.{inverse_of}
use Rattle.matrices.specs.Lu.{Run, going, singular, lu_of}
use Rattle.orders.specs.Order.{Order, is_order, parity, is_odd, differ}
use Rattle.matrices.specs.SameReals.{SameLu, SameSolve}
use Rattle.matrices.specs.Solve.{solve_of}
use Rattle.matrices.specs.Walk.{lengths_refusal}
use Rattle.matrices.proofs.Parity.{Ordered, swaps_in, lu_ordered, lu_few}
use Rattle.orders.proofs.Permutation.{both, is_order-order, order-is_order}
use Rattle.matrices.proofs.Slopes.{map_run, lu_map, solve_map, inverse_map, determinant_map}

-- ---- what the number of a Result tells

module _ {S : Type 0} (t : Result S Refusal) (k : ℕ) (told : answer_number t ≡ k) where
  pub done_zero : (u : S) → t ≡ Ok u → k ≡ 0
  done_zero u e = sym told ∙ ap answer_number e

  pub refused_number : (e : Refusal) → t ≡ Err e → number e ≡ k
  refused_number e p = sym (ap answer_number p) ∙ told

pub refused_not_done : (e : Refusal) → number e ≡ 0 → ⊥
refused_not_done e z = omega (arith, number_positive e)

-- ---- what a number of 0 tells

pub passed : (t : Bool) (k x : ℕ) → cond t (suc k) x ≡ 0 → (t ≡ false) × (x ≡ 0)
passed true k x e = absurd (omega arith)
passed false k x e = (refl, e)

pub allowed : (t : Bool) (k x : ℕ) → cond t x (suc k) ≡ 0 → (t ≡ true) × (x ≡ 0)
allowed true k x e = (refl, e)
allowed false k x e = absurd (omega arith)

pub record LuFits (w n a f p : ℕ) : Type 0 where
  pub small : n ≤ largest.n
  pub input : a ≡ n * n * w
  pub factors : f ≡ n * n * w
  pub order : p ≡ n

pub lu_fits : (w n a factors order : ℕ) → lu_refusal w n a factors order ≡ 0 → LuFits w n a factors order
lu_fits w n a f o e =
    let s = passed (ltb largest.n n) 0 _ e in
    let l = allowed (eqb a (n * n * w) && (eqb f (n * n * w) && eqb o n)) 1 0 s.1 in
    let x = both (eqb a (n * n * w)) (eqb f (n * n * w) && eqb o n) l.0 in
    let y = both (eqb f (n * n * w)) (eqb o n) x.1 in
    record { small = ltb-false largest.n n s.0; input = eqb-true _ _ x.0; factors = eqb-true _ _ y.0; order = eqb-true _ _ y.1 }

-- what solve and inverse have in common
pub record LentFits (w n f : ℕ) (p : List ℕ) : Type 0 where
  pub small : n ≤ largest.n
  pub factors : f ≡ n * n * w
  pub order : Order n p

pub solve_fits : (w n factors : ℕ) (order : List ℕ) (b x : ℕ) → solve_refusal w n factors order b x ≡ 0 → LentFits w n factors order × ((b ≡ n * w) × (x ≡ n * w))
solve_fits w n f o b x e =
    let s = passed (ltb largest.n n) 0 _ e in
    let l = allowed (eqb f (n * n * w) && (eqb (length o) n && (eqb b (n * w) && eqb x (n * w)))) 1 (order_refusal n o) s.1 in
    let p = both (eqb f (n * n * w)) (eqb (length o) n && (eqb b (n * w) && eqb x (n * w))) l.0 in
    let q = both (eqb (length o) n) (eqb b (n * w) && eqb x (n * w)) p.1 in
    let r = both (eqb b (n * w)) (eqb x (n * w)) q.1 in (
      record { small = ltb-false largest.n n s.0; factors = eqb-true _ _ p.0; order = is_order-order n o (eqb-true _ _ q.0) (allowed (is_order n o) 6 0 l.1).0 },
      (eqb-true _ _ r.0, eqb-true _ _ r.1),
    )

pub inverse_fits : (w n factors : ℕ) (order : List ℕ) (out : ℕ) → inverse_refusal w n factors order out ≡ 0 → LentFits w n factors order × (out ≡ n * n * w)
inverse_fits w n f o x e =
    let s = passed (ltb largest.n n) 0 _ e in
    let l = allowed (eqb f (n * n * w) && (eqb (length o) n && eqb x (n * n * w))) 1 (order_refusal n o) s.1 in
    let p = both (eqb f (n * n * w)) (eqb (length o) n && eqb x (n * n * w)) l.0 in
    let q = both (eqb (length o) n) (eqb x (n * n * w)) p.1 in
    (record { small = ltb-false largest.n n s.0; factors = eqb-true _ _ p.0; order = is_order-order n o (eqb-true _ _ q.0) (allowed (is_order n o) 6 0 l.1).0 }, eqb-true _ _ q.1)

pub determinant_fits : (w n factors order : ℕ) → lengths_refusal w n factors order ≡ 0 → (n ≤ largest.n) × ((factors ≡ n * n * w) × (order ≡ n))
determinant_fits w n f o e =
    let s = passed (ltb largest.n n) 0 _ e in
    let l = allowed (eqb f (n * n * w) && eqb o n) 1 0 s.1 in
    let p = both (eqb f (n * n * w)) (eqb o n) l.0 in
    (ltb-false largest.n n s.0, (eqb-true _ _ p.0, eqb-true _ _ p.1))

-- no value is a refusal, and two refusals of one kind have one number
pub not_both : {S : Type 0} {x : S} {k : ℕ} → value x ≡ refused k → ⊥
not_both e = let z : ◌≡◌ {A = ℕ} 0 1 = cc in omega arith

pub number_one : {S : Type 0} {j k : ℕ} → ◌≡◌ {A = Outcome S} (refused j) (refused k) → j ≡ k
number_one e = cc

-- ---- the two ways out of an entry

picked : {S : Type 0} (k : ℕ) (x y : S) → k ≡ 0 → x ≡ cond (eqb k 0) x y
picked k x y e = rw (eq-eqb k 0 e) refl

turned : {S : Type 0} (k : ℕ) (x y : S) → (k ≡ 0 → ⊥) → y ≡ cond (eqb k 0) x y
turned k x y e = rw (ne_eqb k 0 e) refl

module _ {R : Type 0} (A : Algebra R) (L : Layout R) (n : ℕ) where
  pub lu_done : (a f : List Float) (o : List ℕ) → lu_refusal L.width n (length a) (length f) (length o) ≡ 0 → lu_finish A L n (lu_of A n (decode L a)) ≡ lu_left A L n a f o
  unfolding lu_left
  lu_done a f o e = picked (lu_refusal L.width n (length a) (length f) (length o)) _ _ e

  pub lu_refused : (a f : List Float) (o : List ℕ) (k : ℕ) → k ≡ lu_refusal L.width n (length a) (length f) (length o) → (k ≡ 0 → ⊥) → lu_answered (refused k) 0 f o ≡ lu_left A L n a f o
  unfolding lu_left
  lu_refused a f o k e ne =
      ap (λ (j : ℕ). lu_answered (refused j) 0 f o) e ∙ turned (lu_refusal L.width n (length a) (length f) (length o)) _ _ (λ z. ne (e ∙ z))

  pub solve_done : (f : List Float) (o : List ℕ) (b x : List Float) → solve_refusal L.width n (length f) o (length b) (length x) ≡ 0
      → solve_answered (value tt) (encode L (solve_of A n (decode L f) o (decode L b))) ≡ solve_left A L n f o b x
  unfolding solve_left
  solve_done f o b x e = picked (solve_refusal L.width n (length f) o (length b) (length x)) _ _ e

  pub solve_refused : (f : List Float) (o : List ℕ) (b x : List Float) (k : ℕ) → k ≡ solve_refusal L.width n (length f) o (length b) (length x) → (k ≡ 0 → ⊥)
      → solve_answered (refused k) x ≡ solve_left A L n f o b x
  unfolding solve_left
  solve_refused f o b x k e ne = ap (λ (j : ℕ). solve_answered (refused j) x) e ∙ turned (solve_refusal L.width n (length f) o (length b) (length x)) _ _ (λ z. ne (e ∙ z))

  pub inverse_done : (f : List Float) (o : List ℕ) (x : List Float) → inverse_refusal L.width n (length f) o (length x) ≡ 0
      → solve_answered (value tt) (encode L (inverse_of A n (decode L f) o)) ≡ inverse_left A L n f o x
  unfolding inverse_left
  inverse_done f o x e = picked (inverse_refusal L.width n (length f) o (length x)) _ _ e

  pub inverse_refused : (f : List Float) (o : List ℕ) (x : List Float) (k : ℕ) → k ≡ inverse_refusal L.width n (length f) o (length x) → (k ≡ 0 → ⊥)
      → solve_answered (refused k) x ≡ inverse_left A L n f o x
  unfolding inverse_left
  inverse_refused f o x k e ne = ap (λ (j : ℕ). solve_answered (refused j) x) e ∙ turned (inverse_refusal L.width n (length f) o (length x)) _ _ (λ z. ne (e ∙ z))

  pub determinant_done : (f : List Float) (o : List ℕ) (s : ℕ) → determinant_refusal L.width n (length f) o s ≡ 0
      → value (determinant_of A n (decode L f) s) ≡ determinant_left A L n f o s
  unfolding determinant_left
  determinant_done f o s e = picked (determinant_refusal L.width n (length f) o s) _ _ e

  pub determinant_refused : (f : List Float) (o : List ℕ) (s k : ℕ) → k ≡ determinant_refusal L.width n (length f) o s → (k ≡ 0 → ⊥)
      → refused k ≡ determinant_left A L n f o s
  unfolding determinant_left
  determinant_refused f o s k e ne = ap (λ (j : ℕ). refused j) e ∙ turned (determinant_refusal L.width n (length f) o s) _ _ (λ z. ne (e ∙ z))

-- a call of LU by its three ways out: what holds of each holds of what it leaves
module _ {R : Type 0} (A : Algebra R) (L : Layout R) (n : ℕ) (a f : List Float) (p : List ℕ) (P : LuLeft → Type 0) where
  pub lu_cases : P (lu_answered (refused refusal.too_large) 0 f p) → P (lu_answered (refused refusal.wrong_length) 0 f p) → (LuFits L.width n (length a) (length f) (length p) → P (lu_finish A L n (lu_of A n (decode L a))))
      → P (lu_left A L n a f p)
  unfolding lu_left
  lu_cases large long done = go (ltb largest.n n) (eqb (length a) (n * n * L.width) && (eqb (length f) (n * n * L.width) && eqb (length p) n)) (λ e. done (lu_fits L.width n (length a) (length f) (length p) e))
    where
      number : Bool → Bool → ℕ
      number s t = cond s refusal.too_large (cond t 0 refusal.wrong_length)

      go : (s t : Bool) → (number s t ≡ 0 → P (lu_finish A L n (lu_of A n (decode L a)))) → P (cond (eqb (number s t) 0) (lu_finish A L n (lu_of A n (decode L a))) (lu_answered (refused (number s t)) 0 f p))
      go true t h = large
      go false false h = long
      go false true h = h refl

-- how a run ends, from what the buffers hold
module _ {R : Type 0} (A : Algebra R) (L : Layout R) (W : Lawful L) (n : ℕ) (r : Run R) (f : List Float) (p : List ℕ) where
  pub finish_done : (swaps : ℕ) → r ≡ going (decode L f) p swaps → length f ≡ n * n * L.width → lu_answered (value swaps) 0 f p ≡ lu_finish A L n r
  finish_done swaps e h = rw e (ap (λ (l : List Float). lu_answered (value swaps) 0 l p) (sym (encode_decode L W f (n * n) h)))

-- ---- what LU leaves when it is done

-- a permutation of 0..n-1, and a swap count of its parity, at most n
pub record LeavesOrder (n : ℕ) (p : List ℕ) (swaps : ℕ) : Type 0 where
  pub small : n ≤ largest.n
  pub order : Order n p
  pub parities : parity p ≡ is_odd swaps
  pub few : swaps ≤ n

module _ {R : Type 0} (A : Algebra R) (L : Layout R) (n : ℕ) where
  pub lu_leaves_order : (a f : List Float) (p : List ℕ) (swaps : ℕ) → (lu_left A L n a f p).answer ≡ value swaps → LeavesOrder n (lu_left A L n a f p).order swaps
  lu_leaves_order a f p swaps =
      lu_cases A L n a f p (λ l. l.answer ≡ value swaps → LeavesOrder n l.order swaps) (λ e. absurd (not_both (sym e))) (λ e. absurd (not_both (sym e)))
      (λ t. finish t.small (lu_of A n (decode L a)) (lu_ordered A n (decode L a)) (lu_few A n (decode L a)))
    where
      finish : n ≤ largest.n → (r : Run R) → Ordered n r → swaps_in r ≤ n → (lu_finish A L n r).answer ≡ value swaps → LeavesOrder n (lu_finish A L n r).order swaps
      finish h (singular c) o b e = absurd (not_both (sym e))
      finish h (going m q k) o b e = let z : k ≡ swaps = cc in record { small = h; order = o.0; parities = o.1 ∙ ap is_odd z; few = omega arith }

-- solve, inverse and determinant accept it: 7 and 8 never refuse what LU made
pub accepted_order : (n : ℕ) (p : List ℕ) (swaps : ℕ) → LeavesOrder n p swaps → (order_refusal n p ≡ 0) × (swaps_refusal p swaps ≡ 0)
accepted_order n p swaps l =
    let s = l.small in
    let b = l.few in
    (rw (order-is_order n p l.order) refl, rw (le-ltb largest.swaps swaps (omega arith), l.parities) (go (is_odd swaps)))
  where
    go : (t : Bool) → ◌≡◌ {A = ℕ} (cond (differ t t) refusal.wrong_swaps 0) 0
    go true = refl
    go false = refl

-- 6 is LU's alone
pub never_six : (s t u : Bool) → ◌≡◌ {A = ℕ} (cond s 1 (cond t (cond u 0 7) 2)) 6 → ⊥
never_six true t u e = omega arith
never_six false true true e = omega arith
never_six false true false e = omega arith
never_six false false u e = omega arith

-- ---- demand 3 of what two calls leave

module _ {R : Type 0} (A : Algebra R) (L : Layout R) (W : Lawful L) (G : Agrees A L) (K : RealParts A) (n : ℕ) where
  -- floats with the same real parts hold records that the real algebra cannot tell apart
  same_reals : (l l' : List Float) → real_parts L.width l ≡ real_parts L.width l' → map A.re (decode L l) ≡ map A.re (decode L l')
  same_reals l l' e = decode_reals L W A G l ∙ e ∙ sym (decode_reals L W A G l')

  -- what is seen of a finished run but for the slopes comes from the run over the real parts
  seen : LuLeft → LuLeft
  seen x = lu_answered x.answer x.column (real_parts L.width x.factors) x.order

  seen_run : Run Float → LuLeft
  seen_run (going a p swaps) = lu_answered (value swaps) 0 a p
  seen_run (singular c) = lu_answered (refused refusal.singular) c (real_parts L.width (replicate (n * n * L.width) float.zero)) (replicate n 0)

  finish_seen : (r : Run R) → seen (lu_finish A L n r) ≡ seen_run (map_run (map A.re) r)
  unfolding seen seen_run
  finish_seen (going a p swaps) = ap (λ (l : List Float). lu_answered (value swaps) 0 l p) (encode_reals L W A G a)
  finish_seen (singular c) = refl

  lu_seen : (a a' : List Float) → real_parts L.width a ≡ real_parts L.width a' → seen (lu_finish A L n (lu_of A n (decode L a))) ≡ seen (lu_finish A L n (lu_of A n (decode L a')))
  lu_seen a a' e =
      let same = lu_map A reals A.re K n (decode L a) ∙ ap (lu_of reals n) (same_reals a a' e) ∙ sym (lu_map A reals A.re K n (decode L a')) in
      finish_seen (lu_of A n (decode L a)) ∙ ap seen_run same ∙ sym (finish_seen (lu_of A n (decode L a')))

  -- LU
  pub lu_same : (a a' f f' : List Float) (p p' : List ℕ) → length a ≡ length a' → real_parts L.width a ≡ real_parts L.width a' → length f ≡ length f' → length p ≡ length p'
      → SameLu L.width (lu_left A L n a f p) (lu_left A L n a' f' p')
  unfolding lu_left seen
  lu_same a a' f f' p p' ha e hf hp =
      rw (ha, hf, hp) (go (ltb largest.n n) (eqb (length a') (n * n * L.width) && (eqb (length f') (n * n * L.width) && eqb (length p') n)) (lu_finish A L n (lu_of A n (decode L a))) (lu_finish A L n (lu_of A n (decode L a'))) (lu_seen a a' e))
    where
      go : (s t : Bool) (x y : LuLeft) → seen x ≡ seen y
          → SameLu L.width (cond (eqb (cond s 1 (cond t 0 2)) 0) x (lu_answered (refused (cond s 1 (cond t 0 2))) 0 f p)) (cond (eqb (cond s 1 (cond t 0 2)) 0) y (lu_answered (refused (cond s 1 (cond t 0 2))) 0 f' p'))
      go true t x y e = record { answer = refl; column = refl; order = λ w. absurd (omega arith); factors = λ w. absurd (omega arith) }
      go false false x y e = record { answer = refl; column = refl; order = λ w. absurd (omega arith); factors = λ w. absurd (omega arith) }
      go false true x y e = record { answer = ap (λ (z : LuLeft). z.answer) e; column = ap (λ (z : LuLeft). z.column) e; order = λ w. ap (λ (z : LuLeft). z.order) e; factors = λ w. ap (λ (z : LuLeft). z.factors) e }

  -- an entry that fills one buffer: the same number, and where it is 0 the same real parts
  filled_same : (k : ℕ) (m m' : List R) (x x' : List Float) → (k ≡ 6 → ⊥) → map A.re m ≡ map A.re m'
      → SameSolve L.width (cond (eqb k 0) (solve_answered (value tt) (encode L m)) (solve_answered (refused k) x)) (cond (eqb k 0) (solve_answered (value tt) (encode L m')) (solve_answered (refused k) x'))
  filled_same k m m' x x' h e = go (eqb k 0)
    where
      go : (t : Bool) → SameSolve L.width (cond t (solve_answered (value tt) (encode L m)) (solve_answered (refused k) x)) (cond t (solve_answered (value tt) (encode L m')) (solve_answered (refused k) x'))
      go true = record { answer = refl; result = λ w. encode_reals L W A G m ∙ e ∙ sym (encode_reals L W A G m') }
      go false = record { answer = refl; result = λ w. absurd (h w) }

  -- solve
  pub solve_same : (f f' : List Float) (p : List ℕ) (b b' x x' : List Float) → length f ≡ length f' → real_parts L.width f ≡ real_parts L.width f'
      → length b ≡ length b' → real_parts L.width b ≡ real_parts L.width b' → length x ≡ length x'
      → SameSolve L.width (solve_left A L n f p b x) (solve_left A L n f' p b' x')
  unfolding solve_left
  solve_same f f' p b b' x x' hf ef hb eb hx =
      rw (hf, hb, hx)
      (filled_same (solve_refusal L.width n (length f') p (length b') (length x')) _ _ x x' (never_six (ltb largest.n n) (eqb (length f') (n * n * L.width) && (eqb (length p) n && (eqb (length b') (n * L.width) && eqb (length x') (n * L.width)))) (is_order n p))
      (solve_map A reals A.re K n (decode L f) p (decode L b)
      ∙ (λ i. solve_of reals n (same_reals f f' ef i) p (same_reals b b' eb i))
      ∙ sym (solve_map A reals A.re K n (decode L f') p (decode L b'))))

  -- inverse
  pub inverse_same : (f f' : List Float) (p : List ℕ) (x x' : List Float) → length f ≡ length f' → real_parts L.width f ≡ real_parts L.width f' → length x ≡ length x'
      → SameSolve L.width (inverse_left A L n f p x) (inverse_left A L n f' p x')
  unfolding inverse_left
  inverse_same f f' p x x' hf ef hx =
      rw (hf, hx)
      (filled_same (inverse_refusal L.width n (length f') p (length x')) _ _ x x' (never_six (ltb largest.n n) (eqb (length f') (n * n * L.width) && (eqb (length p) n && eqb (length x') (n * n * L.width))) (is_order n p))
      (inverse_map A reals A.re K n (decode L f) p ∙ ap (λ (m : List Float). inverse_of reals n m p) (same_reals f f' ef) ∙ sym (inverse_map A reals A.re K n (decode L f') p)))

  -- determinant
  pub determinant_same : (f f' : List Float) (p : List ℕ) (swaps : ℕ) → length f ≡ length f' → real_parts L.width f ≡ real_parts L.width f'
      → map_outcome A.re (determinant_left A L n f p swaps) ≡ map_outcome A.re (determinant_left A L n f' p swaps)
  unfolding determinant_left
  determinant_same f f' p swaps hf ef =
      rw hf (go (determinant_refusal L.width n (length f') p swaps) (eqb (determinant_refusal L.width n (length f') p swaps) 0)
      (determinant_map A reals A.re K n (decode L f) swaps ∙ ap (λ (m : List Float). determinant_of reals n m swaps) (same_reals f f' ef) ∙ sym (determinant_map A reals A.re K n (decode L f') swaps)))
    where
      go : (k : ℕ) (t : Bool) {x y : R} → A.re x ≡ A.re y → map_outcome A.re (cond t (value x) (refused k)) ≡ map_outcome A.re (cond t (value y) (refused k))
      go k true e = ap (λ (z : Float). value z) e
      go k false e = refl
