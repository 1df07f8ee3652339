-- The determinant in one walk that multiplies the diagonal and marks the order: before turn i, both are as far as i; then the tests of what was marked, and the sign. Assumes nothing.
use Prim.Native.Nat.{ℕ, ◌+◌, ◌*◌, ◌%◌, ◌≤◌, ◌<◌}
use mathlib.Core.Path.{◌≡◌, refl, ap, sym, subst, ◌∙◌}
use mathlib.Core.Bool.{Bool, cond}
use mathlib.Core.List.{List}
use native.Mathlib.Omega.{arith}
use lib.ListN.{length, get_or}
use lib.Ieee.{Float}
use borrow.Author.Tests.{le-ltb, eq-eqb, ne_eqb}
use Rattle.refusals.specs.Largest as largest
use Rattle.std.specs.Prelude.{Result, Ok, Err}
use Rattle.refusals.specs.Number as refusal
use Rattle.refusals.specs.Refused.{number, answer_number}
use Rattle.refusals.specs.declared.Refusal.{Refusal}
use Rattle.algebra.specs.Algebra.{Algebra, zero_of, one_of}
use Rattle.algebra.specs.Flat.{Layout, decode}
use Rattle.algebra.specs.Loop.{upto}
use Rattle.algebra.specs.Outcome.{value, refused}
use Rattle.algebra.proofs.Loop.{upto_turn, upto_end}
use Rattle.algebra.proofs.Laws.{Laws}
use Rattle.matrices.specs.Entries.{count_refusal, swaps_refusal, determinant_refusal, determinant_left}
use Rattle.matrices.specs.Determinant.{signed, diagonal_product, determinant_of}
use Rattle.matrices.specs.Matrix.{Square, cell}
use Rattle.orders.specs.Order.{is_order}
use Rattle.orders.specs.Walk.{marks_none, marks_with, is_full}
use Rattle.matrices.specs.Walk.{walked_refusal}
use Rattle.orders.specs.declared.Marks.{Marks}
use Rattle.matrices.proofs.Answers.{done_zero, refused_number, refused_not_done, determinant_done, determinant_refused}
use Rattle.orders.proofs.Odd.{odd_mod}
use Rattle.orders.proofs.Walk.{Marking, marking, mark_turn, mark_stop, mark_full, mark_odd}

module _ {R : Type 0} {A : Algebra R} {L : Layout R} (Q : Laws A L) where
  abbrev pub Multiplying : ℕ → List Float → R → ℕ → Type 0
  Multiplying n a x i = upto i n (λ k y. A.mul y (cell A n (decode L a) k k)) x ≡ diagonal_product A n (decode L a)

  pub multiplying : (n : ℕ) (a : List Float) → Multiplying n a (one_of A) 0
  unfolding diagonal_product
  multiplying n a = refl

  pub multiply_turn : (n : ℕ) (a : List Float) (x u y : R) (i : ℕ) → Multiplying n a x i → i < n → u ≡ get_or (decode L a) (i * n + i) (zero_of A) → y ≡ A.mul x u → Multiplying n a y (i + 1)
  unfolding cell
  multiply_turn n a x u y i m h eu ey = upto_turn i n _ x y h (ey ∙ ap (A.mul x) eu) m

  pub multiply_end : (n : ℕ) (a : List Float) (x : R) (i : ℕ) → Multiplying n a x i → n ≤ i → x ≡ diagonal_product A n (decode L a)
  multiply_end n a x i m h = upto_end i n _ x h m

  pub sign_odd : (swaps : ℕ) (x y : R) → swaps % 2 ≡ 1 → y ≡ A.neg x → y ≡ signed A swaps x
  sign_odd swaps x y h e = rw (sym (odd_mod swaps) ∙ eq-eqb _ _ h) e

  pub sign_even : (swaps : ℕ) (x : R) → (swaps % 2 ≡ 1 → ⊥) → x ≡ signed A swaps x
  sign_even swaps x h = rw (sym (odd_mod swaps) ∙ ne_eqb _ _ h) refl

  -- before turn i of the walk that tests the order as it multiplies
  pub record Walking (n : ℕ) (a : List Float) (o : List ℕ) (m : Marks) (x : R) (i : ℕ) : Type 0 where
    pub marks : Marking n o m i
    pub product : Multiplying n a x i

  pub walking : (n : ℕ) (a : List Float) (o : List ℕ) → Walking n a o marks_none (one_of A) 0
  walking n a o = record { marks = marking n o; product = multiplying n a }

  -- what is below n has its bits
  pub walk_bit : (n : ℕ) (a : List Float) (x : ℕ) → Square L.width n a → (n ≤ x → ⊥) → x < largest.n
  walk_bit n a x q below = let z = q.small in omega arith

  pub walk_turn : {n : ℕ} {a : List Float} {o : List ℕ} {m : Marks} {x : R} {i : ℕ} → Walking n a o m x i → (m' : Marks) (u y : R) → i < n → Square L.width n a → length o ≡ n → (n ≤ get_or o i 0 → ⊥)
      → m' ≡ marks_with m (get_or o i 0) → u ≡ get_or (decode L a) (i * n + i) (zero_of A) → y ≡ A.mul x u → Walking n a o m' y (i + 1)
  walk_turn {n} {a} {o} {m} {x} {i} w m' u y h q long below em eu ey = subst (λ (k : Marks). Walking n a o k y (i + 1)) (sym em) record {
    marks = mark_turn n o m i w.marks (omega arith) (omega arith) q.small;
    product = multiply_turn n a x u y i w.product h eu ey;
  }

  -- the lengths are right: 7 or 8 is left
  right : (n : ℕ) (a : List Float) (o : List ℕ) (s : ℕ) → Square L.width n a → length o ≡ n → determinant_refusal L.width n (length a) o s ≡ cond (is_order n o) (swaps_refusal o s) 7
  right n a o s q long = rw (le-ltb largest.n n q.small, eq-eqb _ _ q.full, eq-eqb _ _ long) refl

  pub walk_stop : (n : ℕ) (a : List Float) (o : List ℕ) (s : ℕ) (m : Marks) (x : R) (i : ℕ) → Walking n a o m x i → i < n → Square L.width n a → length o ≡ n → n ≤ get_or o i 0
      → refused refusal.not_an_order ≡ determinant_left A L n a o s
  walk_stop n a o s m x i w h q long past =
      determinant_refused A L n a o s 7 (sym (right n a o s q long ∙ ap (λ (t : Bool). cond t (swaps_refusal o s) 7) (mark_stop n o m i w.marks (omega arith) past))) (λ z. omega arith)

  module _ (n : ℕ) (a : List Float) (o : List ℕ) (s : ℕ) (m : Marks) (x : R) (i : ℕ) (t : Result (Unit {0}) Refusal)
      (w : Walking n a o m x i) (h : n ≤ i) (q : Square L.width n a) (long : length o ≡ n) (told : answer_number t ≡ walked_refusal n m s) where
    counted : answer_number t ≡ determinant_refusal L.width n (length a) o s
    counted =
        told ∙ ap (λ (b : Bool). cond (is_full n m.word) (count_refusal b s) 7) (mark_odd n o m i w.marks (omega arith))
        ∙ ap (λ (b : Bool). cond b (swaps_refusal o s) 7) (mark_full n o m i w.marks (omega arith) long) ∙ sym (right n a o s q long)

    pub walk_refused : (e : Refusal) → t ≡ Err e → refused (number e) ≡ determinant_left A L n a o s
    walk_refused e p = determinant_refused A L n a o s (number e) (refused_number t _ counted e p) (refused_not_done e)

    pub walk_end : (u : Unit {0}) (y : R) → t ≡ Ok u → y ≡ signed A s x → value y ≡ determinant_left A L n a o s
    unfolding determinant_of
    walk_end u y p ey =
        ap (λ (v : R). value v) (ey ∙ ap (signed A s) (multiply_end n a x i w.product h))
        ∙ determinant_done A L n a o s (done_zero t _ counted u p)
