-- Records in a run of flat floats, whatever the record's width, and their sum and product. Definitions only.
use Rattle.std.specs.Prelude.{ℕ, zero, suc, ◌+◌, ◌*◌, ◌/◌, ◌%◌, ◌<◌, ◌≡◌, List, [], ◌∷◌, ◌++◌, cond, eqb, length, get_or, Float}
use Rattle.refusals.specs.Number as refusal
use Rattle.real.specs.Operations as float
use Rattle.algebra.specs.Algebra.{Algebra, zero_of, one_of}
use Rattle.algebra.specs.Loop.{upto}
use Rattle.algebra.specs.Outcome.{Outcome, value, refused}

-- How a record type lies in flat floats: `width` floats a record; the parts of a record in order, real part first; the record whose part i is f i.
pub record Layout (R : Type 0) : Type 0 where
  pub width : ℕ
  pub parts : R → List Float
  pub make : (ℕ → Float) → R

-- The parts and the record are two views of one thing: `make` reads the parts below `width` alone, and undoes `parts`, and is undone by it.
pub record Lawful {R : Type 0} (L : Layout R) : Type 0 where
  pub positive : 0 < L.width
  pub size : (x : R) → length (L.parts x) ≡ L.width
  pub reads : (f g : ℕ → Float) → ((i : ℕ) → i < L.width → f i ≡ g i) → L.make f ≡ L.make g
  pub whole : (x : R) → L.make (λ i. get_or (L.parts x) i float.zero) ≡ x
  pub again : (f : ℕ → Float) (i : ℕ) → i < L.width → get_or (L.parts (L.make f)) i float.zero ≡ f i

-- The layout is that of the algebra's records: the real part is the first float, and floats of +0.0 are the record zero.
pub record Agrees {R : Type 0} (A : Algebra R) (L : Layout R) : Type 0 where
  pub first : (f : ℕ → Float) → A.re (L.make f) ≡ f 0
  pub blank : L.make (λ i. float.zero) ≡ zero_of A

-- f k, f (k + 1), .., d of them
unfoldable pub tabulate : {R : Type 0} → (ℕ → R) → ℕ → ℕ → List R
tabulate f zero k = []
tabulate f (suc d) k = f k ∷ tabulate f d (suc k)

-- the real parts of the records that the floats hold, at w floats a record: the first of each w
unfoldable pub real_parts : ℕ → List Float → List Float
real_parts w l = tabulate (λ p. get_or l (p * w) float.zero) (length l / w) 0

module _ {R : Type 0} (L : Layout R) where
  -- record number p: its parts start at p * width
  abbrev pub record_at : List Float → ℕ → R
  record_at l p = L.make (λ i. get_or l (p * L.width + i) float.zero)

  -- how many whole records the floats hold
  abbrev pub record_count : List Float → ℕ
  record_count l = length l / L.width

  -- the records that the floats hold
  unfoldable pub decode : List Float → List R
  decode l = tabulate (record_at l) (record_count l) 0

  -- the records' parts, one record after the other
  unfoldable pub encode : List R → List Float
  encode [] = []
  encode (x ∷ m) = L.parts x ++ encode m

  module _ (A : Algebra R) where
    -- from zero, left to right; a length that is no multiple of the width is refused 2
    unfoldable pub sum_of : List Float → Outcome R
    sum_of l =
        cond (eqb (length l % L.width) 0)
        (value (upto 0 (record_count l) (λ p s. A.add s (record_at l p)) (zero_of A)))
        (refused refusal.wrong_length)

    -- from one, left to right; a length that is no multiple of the width is refused 2
    unfoldable pub product_of : List Float → Outcome R
    product_of l =
        cond (eqb (length l % L.width) 0)
        (value (upto 0 (record_count l) (λ p s. A.mul s (record_at l p)) (one_of A)))
        (refused refusal.wrong_length)
