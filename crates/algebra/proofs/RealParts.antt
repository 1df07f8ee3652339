-- A map that keeps the operations of a record keeps what is defined of them for every record: sums with a plain float, the magnitude, and the sum
-- and the product of flat floats. At the map to the real part: slopes never steer these. Assumes nothing.
use Prim.Native.Nat.{ℕ, ◌/◌, ◌%◌}
use mathlib.Core.Path.{◌≡◌, refl, ap, ◌∙◌}
use mathlib.Core.Bool.{Bool, true, false, cond}
use mathlib.Core.List.{List}
use lib.Dec.{eqb}
use lib.ListN.{length}
use lib.Ieee.{Float}
use Rattle.real.specs.Sign.{sign_of}
use Rattle.real.specs.Operations as float
use Rattle.refusals.specs.Number as refusal
use Rattle.algebra.specs.Algebra.{Algebra, Keeps, zero_of, one_of, add_float, sub_float, magnitude}
use Rattle.algebra.specs.Loop.{upto}
use Rattle.algebra.specs.Flat.{Layout, record_at, record_count, sum_of, product_of}
use Rattle.algebra.specs.Outcome.{value, refused, map_outcome}
use Rattle.algebra.proofs.Loop.{upto_map}

-- a map of what is chosen is the choice of what is mapped
pub cond_map : {R S : Type 0} (h : R → S) (b : Bool) (x y : R) → h (cond b x y) ≡ cond b (h x) (h y)
cond_map h true x y = refl
cond_map h false x y = refl

module _ {R S : Type 0} {A : Algebra R} {B : Algebra S} {h : R → S} (k : Keeps A B h) where
  pub add_float_keeps : (x : R) (f : Float) → h (add_float A x f) ≡ add_float B (h x) f
  add_float_keeps x f = simp (k.with_re, k.re)

  pub sub_float_keeps : (x : R) (f : Float) → h (sub_float A x f) ≡ sub_float B (h x) f
  sub_float_keeps x f = simp (k.with_re, k.re)

  pub magnitude_keeps : (x : R) → h (magnitude A x) ≡ magnitude B (h x)
  magnitude_keeps x = rw (cond_map h (sign_of (A.re x)) (A.neg x) x, k.re x, k.neg x)

  -- over layouts of the same width whose records the map carries to each other
  module _ (L : Layout R) (M : Layout S) (wide : L.width ≡ M.width) (made : (f : ℕ → Float) → h (L.make f) ≡ M.make f) (l : List Float) where
    record_keeps : (p : ℕ) → h (record_at L l p) ≡ record_at M l p
    record_keeps p = rw (← wide) (made (λ i. _))

    outcome_keeps : (op : R → R → R) (op' : S → S → S) (start : R) (start' : S) → ((x y : R) → h (op x y) ≡ op' (h x) (h y)) → h start ≡ start'
        → map_outcome h (cond (eqb (length l % L.width) 0) (value (upto 0 (record_count L l) (λ p s. op s (record_at L l p)) start)) (refused refusal.wrong_length))
        ≡ cond (eqb (length l % M.width) 0) (value (upto 0 (record_count M l) (λ p s. op' s (record_at M l p)) start')) (refused refusal.wrong_length)
    outcome_keeps op op' start start' keeps from =
        go (eqb (length l % L.width) 0)
        ∙ ap (λ (w : ℕ). cond (eqb (length l % w) 0) (value (upto 0 (length l / w) turn start')) (refused refusal.wrong_length)) wide
      where
        turn : ℕ → S → S
        turn p s = op' s (record_at M l p)

        all : h (upto 0 (record_count L l) (λ p s. op s (record_at L l p)) start) ≡ upto 0 (record_count L l) turn start'
        all =
            upto_map h (λ p s. op s (record_at L l p)) turn (λ p s. keeps s (record_at L l p) ∙ ap (op' (h s)) (record_keeps p)) 0 (record_count L l) start
            ∙ ap (upto 0 (record_count L l) turn) from

        go : (b : Bool) → map_outcome h (cond b (value (upto 0 (record_count L l) (λ p s. op s (record_at L l p)) start)) (refused refusal.wrong_length)) ≡ cond b (value (upto 0 (record_count L l) turn start')) (refused refusal.wrong_length)
        go true = ap value all
        go false = refl

    pub sum_keeps : map_outcome h (sum_of L A l) ≡ sum_of M B l
    unfolding sum_of
    sum_keeps = outcome_keeps A.add B.add (zero_of A) (zero_of B) k.add (k.from_re float.zero)

    pub product_keeps : map_outcome h (product_of L A l) ≡ product_of M B l
    unfolding product_of
    product_keeps = outcome_keeps A.mul B.mul (one_of A) (one_of B) k.mul (k.from_re float.one)
