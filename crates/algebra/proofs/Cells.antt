-- One record of flat floats, read and stored by its place, over any record and layout. Assumes nothing.
use Prim.Native.Nat.{ℕ, zero, suc, ◌+◌, ◌-◌, ◌*◌, ◌≤◌, ◌<◌}
use mathlib.Core.Path.{◌≡◌, refl, ap, sym, ◌∙◌}
use mathlib.Core.List.{List, [], ◌∷◌, append-nil}
use native.Mathlib.Omega.{arith}
use lib.ListN.{length, get_or, set}
use lib.Seq.{sets}
use lib.Ieee.{Float}
use Rattle.real.specs.Operations as float
use Rattle.algebra.specs.Algebra.{Algebra, zero_of}
use Rattle.algebra.specs.Flat.{Layout, decode, encode}
use Rattle.algebra.proofs.Flat.{decode_length, decode_size, record_there, record_inside, decode_at, decode_store, encode_decode}
use Rattle.algebra.proofs.Inside.{get_or-inside}
use Rattle.algebra.proofs.Laws.{Laws}

-- ---- places as the code writes them: the first is b itself, then b + 1, b + 2, ..

abbrev pub onward : ℕ → ℕ → ℕ
onward b zero = b
onward b (suc i) = b + suc i

onward_is : (b i : ℕ) → onward b i ≡ b + i
onward_is b zero = omega arith
onward_is b (suc i) = refl

-- values stored one after the other, from place i on
abbrev pub stores : List Float → ℕ → ℕ → List Float → List Float
stores l b i [] = l
stores l b i (v ∷ vs) = stores (set l (onward b i) v) b (suc i) vs

stores_sets : (vs l : List Float) (b i : ℕ) → stores l b i vs ≡ sets l (b + i) vs
stores_sets [] l b i = refl
stores_sets (v ∷ vs) l b i =
    let next : b + suc i ≡ suc (b + i) = omega arith in
    stores_sets vs (set l (onward b i) v) b (suc i)
    ∙ ap (λ (k : ℕ). sets (set l (onward b i) v) k vs) next
    ∙ ap (λ (k : ℕ). sets (set l k v) (suc (b + i)) vs) (onward_is b i)

module _ {R : Type 0} {A : Algebra R} {L : Layout R} (Q : Laws A L) where
  -- record p is one of those held
  pub held : (l : List Float) (p : ℕ) → p * L.width + L.width ≤ length l → p < length (decode L l)
  held l p h = let z = Q.lawful.positive in omega (arith, decode_length L Q.lawful l, record_there L Q.lawful l p (omega arith))

  -- floats of k whole records hold k
  pub holds : (l : List Float) (k : ℕ) → length l ≡ k * L.width → length (decode L l) ≡ k
  holds l k h = decode_length L Q.lawful l ∙ decode_size L Q.lawful l k h

  -- floats of k whole records are the parts of what they hold
  pub parts_of : (l : List Float) (k : ℕ) (m : List R) → length l ≡ k * L.width → decode L l ≡ m → l ≡ encode L m
  parts_of l k m h e = sym (encode_decode L Q.lawful l k h) ∙ ap (encode L) e

  -- record p, from its floats as the code reads them (a float that is not there counts as e)
  pub read_at : (l : List Float) (p : ℕ) (e : Float) → p * L.width + (L.width - 1) < length l → L.make (λ i. get_or l (p * L.width + i) e) ≡ get_or (decode L l) p (zero_of A)
  read_at l p e h =
      let z = Q.lawful.positive in
      Q.lawful.reads (λ i. get_or l (p * L.width + i) e) (λ i. get_or l (p * L.width + i) float.zero) (λ i b. get_or-inside l (p * L.width + i) e float.zero (omega arith))
      ∙ sym (decode_at L Q.lawful l p (zero_of A) (record_there L Q.lawful l p h))

  -- its parts stored are the record stored
  pub write_at : (l : List Float) (p : ℕ) (x : R) → p * L.width + (L.width - 1) < length l → decode L (sets l (p * L.width) (L.parts x)) ≡ set (decode L l) p x
  write_at l p x h = decode_store L Q.lawful l p x (record_there L Q.lawful l p h)

  -- the same, as the code of a reader and of a writer leaves it
  pub read_record : (l : List Float) (p : ℕ) (e : Float) → p * L.width + (L.width - 1) < length l → L.make (λ i. get_or l (onward (p * L.width) i) e) ≡ get_or (decode L l) p (zero_of A)
  read_record l p e h =
      Q.lawful.reads (λ i. get_or l (onward (p * L.width) i) e) (λ i. get_or l (p * L.width + i) e) (λ i b. ap (λ (k : ℕ). get_or l k e) (onward_is (p * L.width) i)) ∙ read_at l p e h

  pub write_record : (l : List Float) (p : ℕ) (x : R) → p * L.width + (L.width - 1) < length l → decode L (stores l (p * L.width) 0 (L.parts x)) ≡ set (decode L l) p x
  write_record l p x h =
      let first : p * L.width + 0 ≡ p * L.width = omega arith in
      ap (decode L) (stores_sets (L.parts x) l (p * L.width) 0 ∙ ap (λ (k : ℕ). sets l k (L.parts x)) first) ∙ write_at l p x h

  -- the last float of a record that is held is there
  pub last_inside : (l : List Float) (p : ℕ) → p < length (decode L l) → p * L.width + (L.width - 1) < length l
  last_inside l p h = let z = Q.lawful.positive in omega (arith, record_inside L Q.lawful l p (omega (arith, decode_length L Q.lawful l)))

  -- a reader and a writer of a record that is held
  pub read_held : (l : List Float) (p : ℕ) (e : Float) → p < length (decode L l) → L.make (λ i. get_or l (onward (p * L.width) i) e) ≡ get_or (decode L l) p (zero_of A)
  read_held l p e h = read_record l p e (last_inside l p h)

  pub write_held : (l : List Float) (p : ℕ) (x : R) → p < length (decode L l) → decode L (stores l (p * L.width) 0 (L.parts x)) ≡ set (decode L l) p x
  write_held l p x h = write_record l p x (last_inside l p h)

-- A record that the record's writer stored, and no float more: its parts.
module _ {R : Type 0} {A : Algebra R} {L : Layout R} (Q : Laws A L) (l : List Float) where
  the_one : (m : List R) (x : R) → length (set m 0 x) ≡ 1 → set m 0 x ≡ x ∷ []
  the_one [] x h = absurd (omega arith)
  the_one (a ∷ []) x h = refl
  the_one (a ∷ b ∷ m) x h = absurd (omega arith)

  pub one_written : (m : List R) (x : R) → length l ≡ L.width → decode L l ≡ set m 0 x → l ≡ L.parts x
  unfolding encode
  one_written m x size e =
      let whole : length l ≡ 1 * L.width = omega arith in
      let held = sym (ap length e) ∙ holds Q l 1 whole in
      parts_of Q l 1 (x ∷ []) whole (e ∙ the_one m x held) ∙ append-nil (L.parts x)
