-- What Jacobi reads: the part below the diagonal has no effect at all, and of the rest the real parts alone decide the sweeps, the rotations, the order and
-- the real parts of what is found. Over any record. Assumes nothing.
use Prim.Native.Nat.{ℕ, zero, suc, ◌+◌, ◌*◌, ◌/◌, ◌%◌, ◌≤◌, ◌<◌}
use mathlib.Core.Path.{◌≡◌, refl, ap, sym, ◌∙◌}
use mathlib.Core.Bool.{Bool, true, false, cond}
use mathlib.Core.List.{List, [], ◌∷◌, map}
use native.Mathlib.Nat.{mul-add-div_right, mul-add-mod_self_right, div-eq_of_lt, mod-eq_of_lt, mod-lt, div-add-mod'}
use native.Mathlib.Decide.{dec_lt, ℕ_discrete}
use native.Mathlib.Omega.{arith}
use borrow.Author.Tests.{le-ltb, ltb-false}
use lib.Dec.{ltb}
use lib.ListN.{length, get_or, set, length-set, get_or-eq_default}
use lib.Seq.{ext_get_or, get_or-set_same, get_or-set_other}
use Rattle.algebra.specs.Algebra.{Algebra, Keeps, zero_of}
use Rattle.algebra.specs.Flat.{tabulate}
use Rattle.algebra.proofs.Flat.{tabulate_length, tabulate_at}
use Rattle.matrices.specs.Matrix.{cell, store}
use Rattle.jacobi.specs.Sort.{eigen, jacobi_of}
use Rattle.rotations.proofs.Carry.{Follows, cell_map, store_map}
use Rattle.jacobi.proofs.Carry.{map_eigen, jacobi_carry}

-- a record's operations are kept by the map that changes nothing
pub keeps_itself : {R : Type 0} (A : Algebra R) → Keeps A A (λ x. x)
keeps_itself A =
    record {
      re = λ x. refl;
      from_re = λ f. refl;
      with_re = λ x f. refl;
      add = λ x y. refl;
      sub = λ x y. refl;
      mul = λ x y. refl;
      div = λ x y. refl;
      neg = λ x. refl;
      mul_float = λ x f. refl;
      div_float = λ x f. refl;
      chain = λ x f0 f1 f2 f3. refl;
    }

tabulate_same : {R S : Type 0} (f : R → S) (x y : ℕ → R) (d k : ℕ) → ((j : ℕ) → f (x j) ≡ f (y j)) → map f (tabulate x d k) ≡ map f (tabulate y d k)
unfolding tabulate
tabulate_same f x y zero k e = refl
tabulate_same f x y (suc d) k e = λ i. e k i ∷ tabulate_same f x y d (suc k) e i

pub map_same : {R : Type 0} (l : List R) → map (λ x. x) l ≡ l
map_same [] = refl
map_same {R} (x ∷ l) = ap (λ (r : List R). x ∷ r) (map_same l)

module _ {R : Type 0} (A : Algebra R) (n : ℕ) where
  -- the record at place p, or zero where that is below the diagonal
  unfoldable pub entry : List R → ℕ → R
  entry a p = cond (ltb (p % n) (p / n)) (zero_of A) (get_or a p (zero_of A))

  -- the matrix with zero below the diagonal
  unfoldable pub above : List R → List R
  above a = tabulate (entry a) (length a) 0

  above_length : (a : List R) → length (above a) ≡ length a
  unfolding above
  above_length a = tabulate_length (entry a) (length a) 0

  above_at : (a : List R) (p : ℕ) → p < length a → get_or (above a) p (zero_of A) ≡ entry a p
  unfolding above
  above_at a p h = tabulate_at (entry a) (length a) 0 p (zero_of A) h ∙ ap (entry a) (omega arith)

  -- a place on or above the diagonal
  entry_above : (a : List R) (r c : ℕ) → r ≤ c → c < n → entry a (r * n + c) ≡ get_or a (r * n + c) (zero_of A)
  unfolding entry
  entry_above a r c l u =
      let row : (r * n + c) / n ≡ r = mul-add-div_right (omega arith) r c ∙ ap (λ (y : ℕ). r + y) (div-eq_of_lt u) ∙ omega arith in
      let column : (r * n + c) % n ≡ c = mul-add-mod_self_right r n c ∙ mod-eq_of_lt u in
      let test : ltb ((r * n + c) % n) ((r * n + c) / n) ≡ false = (λ i. ltb (column i) (row i)) ∙ le-ltb c r l in
      ap (λ (b : Bool). cond b (zero_of A) (get_or a (r * n + c) (zero_of A))) test

  above_reads : (a : List R) (r c : ℕ) → r ≤ c → c < n → cell A n a r c ≡ cell A n (above a) r c
  unfolding cell
  above_reads a r c l u = go (dec_lt (r * n + c) (length a))
    where
      go : Dec (r * n + c < length a) → get_or a (r * n + c) (zero_of A) ≡ get_or (above a) (r * n + c) (zero_of A)
      go (yes h) = sym (above_at a (r * n + c) h ∙ entry_above a r c l u)
      go (no h) = get_or-eq_default a (zero_of A) (omega arith) ∙ sym (get_or-eq_default (above a) (zero_of A) (omega (arith, above_length a)))

  above_stores : (a : List R) (r c : ℕ) (x : R) → r ≤ c → c < n → above (store A n a r c x) ≡ store A n (above a) r c x
  unfolding store entry
  above_stores a r c x l u =
      ext_get_or (zero_of A) (above (set a p x)) (set (above a) p x)
      (above_length (set a p x) ∙ length-set a p x ∙ sym (length-set (above a) p x ∙ above_length a))
      (λ j h. let b : j < length a = omega (arith, above_length (set a p x), length-set a p x) in
      above_at (set a p x) j (omega (arith, length-set a p x)) ∙ go j b (ℕ_discrete j p))
    where
      p : ℕ
      p = r * n + c

      go : (j : ℕ) → j < length a → Dec (j ≡ p) → entry (set a p x) j ≡ get_or (set (above a) p x) j (zero_of A)
      go j b (yes e) =
          ap (entry (set a p x)) e ∙ entry_above (set a p x) r c l u ∙ get_or-set_same a p x (zero_of A) (omega arith)
          ∙ sym (ap (λ (i : ℕ). get_or (set (above a) p x) i (zero_of A)) e ∙ get_or-set_same (above a) p x (zero_of A) (omega (arith, above_length a)))
      go j b (no ne) =
          ap (cond (ltb (j % n) (j / n)) (zero_of A)) (get_or-set_other a p j x (zero_of A) ne)
          ∙ sym (get_or-set_other (above a) p j x (zero_of A) ne ∙ above_at a j b)

  above_follows : Follows A A (λ x. x) n above
  above_follows = record { keeps = keeps_itself A; reads = above_reads; stores = above_stores }

  -- the part below the diagonal has no effect at all
  pub below_unread : (limit : ℕ) (a : List R) → jacobi_of A n limit a ≡ jacobi_of A n limit (above a)
  below_unread limit a =
      (λ i. let e = jacobi_of A n limit a in eigen (sym (map_same e.values) i) (sym (map_same e.vectors) i) e.sweeps e.rotations e.stopped)
      ∙ jacobi_carry above_follows limit a

  -- matrices are alike above the diagonal, seen by f, if their entries there are
  pub above_same : {S : Type 0} (f : R → S) (a b : List R) → 0 < n → length a ≡ length b → ((r c : ℕ) → r ≤ c → c < n → f (cell A n a r c) ≡ f (cell A n b r c)) → map f (above a) ≡ map f (above b)
  unfolding above cell entry
  above_same {S} f a b z e h =
      tabulate_same f (entry a) (entry b) (length a) 0 (λ p. go p (ltb (p % n) (p / n)) refl) ∙ ap (λ (d : ℕ). map f (tabulate (entry b) d 0)) e
    where
      go : (p : ℕ) (t : Bool) → ltb (p % n) (p / n) ≡ t → f (cond t (zero_of A) (get_or a p (zero_of A))) ≡ f (cond t (zero_of A) (get_or b p (zero_of A)))
      go p true q = refl
      go p false q =
          let at : p / n * n + p % n ≡ p = div-add-mod' p n in
          rw at at (h (p / n) (p % n) (ltb-false (p % n) (p / n) q) (mod-lt p z))

-- the map of every record
map_follows : {R S : Type 0} {A : Algebra R} {B : Algebra S} {g : R → S} → Keeps A B g → (n : ℕ) → Follows A B g n (map g)
map_follows k n = record { keeps = k; reads = λ a r c l u. cell_map k n a r c; stores = λ a r c x l u. store_map k n a r c x }

module _ {R S : Type 0} {A : Algebra R} {B : Algebra S} {g : R → S} (k : Keeps A B g) (n : ℕ) where
  -- a run, seen by a map that keeps the operations, comes from what the map sees on and above the diagonal
  pub jacobi_seen : (limit : ℕ) (a : List R) → map_eigen g (jacobi_of A n limit a) ≡ jacobi_of B n limit (map g (above A n a))
  jacobi_seen limit a = ap (map_eigen g) (below_unread A n limit a) ∙ jacobi_carry (map_follows k n) limit (above A n a)
