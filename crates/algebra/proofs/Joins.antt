-- The loop of a sum or a product of a run of records, over any record: before turn p, what is left to join gives the whole. Assumes nothing.
use Prim.Native.Nat.{ℕ, ◌+◌, ◌*◌, ◌%◌, ◌≤◌, ◌<◌}
use mathlib.Core.Path.{◌≡◌, ap, sym, ◌∙◌}
use mathlib.Core.List.{List, ◌++◌}
use native.Mathlib.Omega.{arith}
use borrow.Author.Tests.{eq-eqb, ne_eqb}
use lib.ListN.{length, get_or, drop, length-drop, length-append, get_or-append}
use lib.Seq.{drop_at, drop-drop, get_or-drop}
use lib.Ieee.{Float}
use Rattle.real.specs.Operations as float
use Rattle.refusals.specs.Number.{wrong_length}
use Rattle.algebra.specs.Algebra.{Algebra, zero_of, one_of}
use Rattle.algebra.specs.Flat.{Layout, record_at, record_count, decode, sum_of, product_of}
use Rattle.algebra.specs.Loop.{upto}
use Rattle.algebra.specs.Outcome.{value, refused}
use Rattle.algebra.proofs.Flat.{decode_at, decode_length, decode_size, record_inside, record_same, record_there}
use Rattle.algebra.proofs.Laws.{Laws}
use Rattle.algebra.proofs.Loop.{upto_turn, upto_end}

-- the floats l, joined by op from `start` on, as far as record p: of l a reader by w floats a turn has `left` still to come
pub record Joining {R : Type 0} (L : Layout R) (op : R → R → R) (start : R) (l : List Float) (acc : R) (w : ℕ) (left : List Float) (p : ℕ) : Type 0 where
  pub size : w ≡ L.width
  pub reached : p ≤ record_count L l
  pub still : left ≡ drop (p * L.width) l
  pub rest : upto p (record_count L l) (λ q s. op s (record_at L l q)) acc ≡ upto 0 (record_count L l) (λ q s. op s (record_at L l q)) start

module _ {R : Type 0} {A : Algebra R} {L : Layout R} (Q : Laws A L) where
  pub joining_from : {op : R → R → R} {start : R} {l : List Float} (acc : R) (w : ℕ) (left : List Float) → acc ≡ start → w ≡ L.width → left ≡ l → Joining L op start l acc w left 0
  joining_from {op} {start} {l} acc w left e f g =
      record { size = f; reached = omega arith; still = g ∙ ap (λ (n : ℕ). drop n l) (let z : 0 ≡ 0 * L.width = omega arith in z); rest = ap (upto 0 (record_count L l) (λ q s. op s (record_at L l q))) e }

  -- a chunk is one record
  pub chunk_held : (x : List Float) → length x ≡ L.width → 0 < length (decode L x)
  chunk_held x h = let one : length x ≡ 1 * L.width = omega (arith, h) in omega (arith, decode_length L Q.lawful x, decode_size L Q.lawful x 1 one)

  pub joining_more : {op : R → R → R} {start : R} {l : List Float} (acc acc' y : R) (w w' p p' : ℕ) (left left' x : List Float) → Joining L op start l acc w left p → w' ≡ w → left ≡ x ++ left' → length x ≡ w
      → y ≡ get_or (decode L x) 0 (zero_of A) → acc' ≡ op acc y → p' ≡ p + 1 → Joining L op start l acc' w' left' p'
  joining_more {op} {start} {l} acc acc' y w w' p p' left left' x j e f g read made next =
      rw next (record {
        size = e ∙ j.size;
        reached = omega (arith, there);
        still = onwards;
        rest = upto_turn p (record_count L l) (λ q s. op s (record_at L l q)) acc acc' there (made ∙ ap (op acc) same) j.rest;
      })
    where
      here : drop (p * L.width) l ≡ x ++ left'
      here = sym j.still ∙ f

      wide : length x ≡ L.width
      wide = g ∙ j.size

      there : p < record_count L l
      there = record_there L Q.lawful l p (let z = Q.lawful.positive in omega (arith, wide, simp (length-drop, length-append) at (ap length here)))

      part : (i : ℕ) → i < L.width → get_or x (0 * L.width + i) float.zero ≡ get_or l (p * L.width + i) float.zero
      part i h =
          ap (λ (n : ℕ). get_or x n float.zero) (let z : 0 * L.width + i ≡ i = omega arith in z)
          ∙ sym (get_or-append x left' float.zero i (omega (arith, wide)))
          ∙ ap (λ (m : List Float). get_or m i float.zero) (sym here)
          ∙ get_or-drop (p * L.width) l i float.zero

      same : y ≡ record_at L l p
      same = read ∙ decode_at L Q.lawful x 0 (zero_of A) (omega (arith, decode_length L Q.lawful x, chunk_held x wide)) ∙ record_same L Q.lawful x l 0 p part

      onwards : left' ≡ drop ((p + 1) * L.width) l
      onwards =
          sym (drop_at x left' L.width wide) ∙ ap (drop L.width) (sym here) ∙ drop-drop L.width (p * L.width) l ∙ ap (λ (n : ℕ). drop n l) (let z : p * L.width + L.width ≡ (p + 1) * L.width = omega arith in z)

  -- where no chunk is left, no record is
  joining_over : {op : R → R → R} {start : R} {l : List Float} (acc : R) (w p : ℕ) (left : List Float) → Joining L op start l acc w left p → length left < w → record_count L l ≤ p
  joining_over {op} {start} {l} acc w p left j h =
      let none : p < record_count L l → ⊥ = λ lt. absurd (omega (arith, h, j.size, record_inside L Q.lawful l p lt, simp length-drop at (ap length j.still))) in
      omega (arith, none)

  -- a length of no whole records is refused; after the last record stands the whole, where the code has found the width v
  pub sum_refused : (l : List Float) → (length l % L.width ≡ 0 → ⊥) → refused wrong_length ≡ sum_of L A l
  unfolding sum_of
  sum_refused l h = rw (ne_eqb _ _ h)

  pub sum_done : (l : List Float) (acc : R) (w v p : ℕ) (left : List Float) → v ≡ L.width → length l % v ≡ 0 → Joining L A.add (zero_of A) l acc w left p → length left < w → value acc ≡ sum_of L A l
  unfolding sum_of
  sum_done l acc w v p left f whole j h =
      let full : length l % L.width ≡ 0 = rw (← f) whole in
      rw (eq-eqb _ _ full) (ap value (upto_end p (record_count L l) (λ q s. A.add s (record_at L l q)) acc (joining_over acc w p left j h) j.rest))

  pub product_refused : (l : List Float) → (length l % L.width ≡ 0 → ⊥) → refused wrong_length ≡ product_of L A l
  unfolding product_of
  product_refused l h = rw (ne_eqb _ _ h)

  pub product_done : (l : List Float) (acc : R) (w v p : ℕ) (left : List Float) → v ≡ L.width → length l % v ≡ 0 → Joining L A.mul (one_of A) l acc w left p → length left < w → value acc ≡ product_of L A l
  unfolding product_of
  product_done l acc w v p left f whole j h =
      let full : length l % L.width ≡ 0 = rw (← f) whole in
      rw (eq-eqb _ _ full) (ap value (upto_end p (record_count L l) (λ q s. A.mul s (record_at L l q)) acc (joining_over acc w p left j h) j.rest))
