-- The entry over any record: which facts a call that is not refused may take for granted; slopes never steer, and what stands below the diagonal has no effect.
-- Assumes nothing.
use Prim.Native.Nat.{ℕ, zero, suc, ◌+◌, ◌*◌, ◌/◌, ◌≤◌, ◌<◌}
use mathlib.Core.Path.{◌≡◌, refl, ap, sym, ◌∙◌}
use mathlib.Core.Bool.{Bool, true, false, cond, ◌&&◌}
use mathlib.Core.List.{List}
use native.Mathlib.Omega.{arith}
use lib.Dec.{ltb, eqb}
use lib.ListN.{length}
use lib.Ieee.{Float}
use borrow.Author.Tests.{ltb-false, eqb-true, eqb-false, eq-eqb, ne_eqb}
use Rattle.refusals.specs.Largest as largest
use Rattle.refusals.specs.Number as refusal
use Rattle.algebra.specs.Algebra.{Algebra, RealParts, reals, zero_of}
use Rattle.algebra.specs.Flat.{Layout, Lawful, Agrees, record_at, decode}
use Rattle.algebra.specs.Outcome.{value, refused}
use Rattle.algebra.proofs.Flat.{decode_size, decode_at, decode_length, record_same, encode_reals}
use Rattle.matrices.specs.Matrix.{cell}
use Rattle.matrices.proofs.Places.{place}
use Rattle.orders.proofs.Permutation.{both}
use Rattle.matrices.proofs.Answers.{passed, allowed}
use Rattle.jacobi.specs.Sort.{Eigen, jacobi_of}
use Rattle.jacobi.specs.Entry.{jacobi_refusal, jacobi_answered, jacobi_done, jacobi_left}
use Rattle.jacobi.specs.SameReals.{SameAbove, SameJacobi}
use Rattle.jacobi.proofs.Carry.{map_eigen}
use Rattle.jacobi.proofs.Above.{above, below_unread, above_same, jacobi_seen, map_same}

-- ---- what a number of 0 tells

some : (n : ℕ) → eqb n 0 ≡ false → 0 < n
some zero e = absurd (eqb-false 0 0 e refl)
some (suc n) e = omega arith

pub record JacobiFits (w n a k d v : ℕ) : Type 0 where
  pub small : n ≤ largest.n
  pub some : 0 < n
  pub input : a ≡ n * n * w
  pub values : d ≡ n * w
  pub vectors : v ≡ n * n * w
  pub limit : k ≤ largest.limit

pub jacobi_fits : (w n a limit values vectors : ℕ) → jacobi_refusal w n a limit values vectors ≡ 0 → JacobiFits w n a limit values vectors
jacobi_fits w n a limit d v e =
    let s = passed (ltb largest.n n) 0 _ e in
    let z = passed (eqb n 0) 2 _ s.1 in
    let l = allowed (eqb a (n * n * w) && (eqb d (n * w) && eqb v (n * n * w))) 1 (cond (ltb largest.limit limit) refusal.limit_too_large 0) z.1 in
    let x = both (eqb a (n * n * w)) (eqb d (n * w) && eqb v (n * n * w)) l.0 in
    let y = both (eqb d (n * w)) (eqb v (n * n * w)) x.1 in
    let t = passed (ltb largest.limit limit) 3 0 l.1 in
    record {
      small = ltb-false largest.n n s.0;
      some = some n z.0;
      input = eqb-true _ _ x.0;
      values = eqb-true _ _ y.0;
      vectors = eqb-true _ _ y.1;
      limit = ltb-false largest.limit limit t.0;
    }

module _ {R : Type 0} (A : Algebra R) (L : Layout R) (n : ℕ) where
  -- the two ways out of the entry
  pub jacobi_done_lem : (a : List Float) (limit : ℕ) (d v : List Float) → jacobi_refusal L.width n (length a) limit (length d) (length v) ≡ 0
      → jacobi_done A L n (jacobi_of A n limit (decode L a)) ≡ jacobi_left A L n a limit d v
  unfolding jacobi_left
  jacobi_done_lem a limit d v e = sym (ap (λ (t : Bool). cond t (jacobi_done A L n (jacobi_of A n limit (decode L a))) (jacobi_answered (refused (jacobi_refusal L.width n (length a) limit (length d) (length v))) d v)) (eq-eqb _ 0 e))

  pub jacobi_refused : (a : List Float) (limit : ℕ) (d v : List Float) (k : ℕ) → k ≡ jacobi_refusal L.width n (length a) limit (length d) (length v) → (k ≡ 0 → ⊥)
      → jacobi_answered (refused k) d v ≡ jacobi_left A L n a limit d v
  unfolding jacobi_left
  jacobi_refused a limit d v k e ne =
      ap (λ (j : ℕ). jacobi_answered (refused j) d v) e
      ∙ sym (ap (λ (t : Bool). cond t (jacobi_done A L n (jacobi_of A n limit (decode L a))) (jacobi_answered (refused (jacobi_refusal L.width n (length a) limit (length d) (length v))) d v)) (ne_eqb _ 0 (λ z. ne (e ∙ z))))

-- ---- two calls

module _ {R : Type 0} (A : Algebra R) (L : Layout R) (W : Lawful L) (G : Agrees A L) (n : ℕ) where
  -- the record at row r and column c, in the floats
  pub cell_record : (a : List Float) (r c : ℕ) → length a ≡ n * n * L.width → r < n → c < n → cell A n (decode L a) r c ≡ record_at L a (r * n + c)
  unfolding cell
  cell_record a r c e hr hc = decode_at L W a (r * n + c) (zero_of A) (omega (arith, place n r c hr hc, decode_size L W a (n * n) e))

  records_alike : (a b : List Float) → length a ≡ n * n * L.width → SameAbove L.width n L.width a b → (r c : ℕ) → r ≤ c → c < n → cell A n (decode L a) r c ≡ cell A n (decode L b) r c
  records_alike a b e h r c l u =
      cell_record a r c e (omega arith) u ∙ record_same L W a b (r * n + c) (r * n + c) (λ i t. h.parts r c i l u t) ∙ sym (cell_record b r c (sym h.size ∙ e) (omega arith) u)

  reals_alike : (a b : List Float) → length a ≡ n * n * L.width → SameAbove L.width n 1 a b → (r c : ℕ) → r ≤ c → c < n → A.re (cell A n (decode L a) r c) ≡ A.re (cell A n (decode L b) r c)
  reals_alike a b e h r c l u =
      ap A.re (cell_record a r c e (omega arith) u) ∙ G.first _ ∙ h.parts r c 0 l u (omega arith) ∙ sym (ap A.re (cell_record b r c (sym h.size ∙ e) (omega arith) u) ∙ G.first _)

  sizes : (a b : List Float) → length a ≡ length b → length (decode L a) ≡ length (decode L b)
  sizes a b e = decode_length L W a ∙ ap (λ (k : ℕ). k / L.width) e ∙ sym (decode_length L W b)

  -- what stands below the diagonal has no effect at all
  pub below_no_effect : (a b : List Float) (limit : ℕ) (d v : List Float) → SameAbove L.width n L.width a b → jacobi_left A L n a limit d v ≡ jacobi_left A L n b limit d v
  below_no_effect a b limit d v h = go (eqb (number (length a)) 0) refl
    where
      number : ℕ → ℕ
      number k = jacobi_refusal L.width n k limit (length d) (length v)

      go : (t : Bool) → eqb (number (length a)) 0 ≡ t → jacobi_left A L n a limit d v ≡ jacobi_left A L n b limit d v
      go true e =
          let z = eqb-true (number (length a)) 0 e in
          let f = jacobi_fits L.width n (length a) limit (length d) (length v) z in
          let same = below_unread A n limit (decode L a)
          ∙ ap (jacobi_of A n limit) (sym (map_same (above A n (decode L a))) ∙ above_same A n (λ x. x) (decode L a) (decode L b) f.some (sizes a b h.size) (records_alike a b f.input h) ∙ map_same (above A n (decode L b)))
          ∙ sym (below_unread A n limit (decode L b)) in
          sym (jacobi_done_lem A L n a limit d v z) ∙ ap (jacobi_done A L n) same ∙ jacobi_done_lem A L n b limit d v (ap number (sym h.size) ∙ z)
      go false e =
          let z = eqb-false (number (length a)) 0 e in
          sym (jacobi_refused A L n a limit d v (number (length a)) refl z) ∙ jacobi_refused A L n b limit d v (number (length a)) (ap number h.size) z

  -- slopes never steer: two calls with the same size, lengths, limit and real parts of what is read
  pub jacobi_same : RealParts A → (a b : List Float) (limit : ℕ) (d d' v v' : List Float) → SameAbove L.width n 1 a b → length d ≡ length d' → length v ≡ length v'
      → SameJacobi L.width (jacobi_left A L n a limit d v) (jacobi_left A L n b limit d' v')
  jacobi_same K a b limit d d' v v' h hd hv = go (eqb (number (length a) (length d) (length v)) 0) refl
    where
      number : ℕ → ℕ → ℕ → ℕ
      number j k l = jacobi_refusal L.width n j limit k l

      alike : number (length a) (length d) (length v) ≡ number (length b) (length d') (length v')
      alike = λ i. number (h.size i) (hd i) (hv i)

      done : (x y : Eigen R) → map_eigen A.re x ≡ map_eigen A.re y → SameJacobi L.width (jacobi_done A L n x) (jacobi_done A L n y)
      done x y e =
          record {
            answer = ap (λ (z : Eigen Float). value z.sweeps) e;
            values = λ f. encode_reals L W A G x.values ∙ ap (λ (z : Eigen Float). z.values) e ∙ sym (encode_reals L W A G y.values);
            vectors = λ f. encode_reals L W A G x.vectors ∙ ap (λ (z : Eigen Float). z.vectors) e ∙ sym (encode_reals L W A G y.vectors);
          }

      go : (t : Bool) → eqb (number (length a) (length d) (length v)) 0 ≡ t → SameJacobi L.width (jacobi_left A L n a limit d v) (jacobi_left A L n b limit d' v')
      go true e =
          let z = eqb-true (number (length a) (length d) (length v)) 0 e in
          let f = jacobi_fits L.width n (length a) limit (length d) (length v) z in
          let same = jacobi_seen K n limit (decode L a)
          ∙ ap (jacobi_of reals n limit) (above_same A n A.re (decode L a) (decode L b) f.some (sizes a b h.size) (reals_alike a b f.input h))
          ∙ sym (jacobi_seen K n limit (decode L b)) in
          rw (← jacobi_done_lem A L n a limit d v z, ← jacobi_done_lem A L n b limit d' v' (sym alike ∙ z)) (done _ _ same)
      go false e =
          let z = eqb-false (number (length a) (length d) (length v)) 0 e in
          rw (← jacobi_refused A L n a limit d v _ refl z, ← jacobi_refused A L n b limit d' v' _ alike z) (record { answer = refl; values = λ f. absurd f; vectors = λ f. absurd f })
