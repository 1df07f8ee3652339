-- The sign of a float is the top bit of its pattern. Assumes nothing.
use mathlib.Core.Path.{◌≡◌, refl, sym, ap, ◌∙◌, subst}
use mathlib.Core.Bool.{Bool, true, false, not, cond}
use Prim.Native.Nat.{ℕ, zero, suc, ◌+◌, ◌/◌, ◌%◌}
use lib.Dec.{T, leb, eqb}
use lib.Ieee.{Float, Format, nan, inf, fits, is_nan, odd, of_fields, of_bits, to_bits, top, ones, hid, prec, low, ne}
use lib.Ieee.Bits.{of_bits-to_bits}
use lib.Ieee.Compare.{differs_from_itself}
use Rattle.real.specs.Sign.{sign_of}

odd_sign : (d : ℕ) (s : Bool) (q k l : ℕ) → sign_of (odd d s q k l) ≡ s
unfolding sign_of odd
odd_sign d s zero k l = refl
odd_sign d s (suc q) k l = refl

special_sign : (s a b : Bool) (v : Float) → sign_of v ≡ s → T (not (is_nan (cond a (cond b (inf s) nan) v))) → sign_of (cond a (cond b (inf s) nan) v) ≡ s
unfolding sign_of is_nan
special_sign s true true v e h = refl
special_sign s true false v e h = absurd h
special_sign s false b v e h = e

-- a pattern's value has the sign it is made with, unless it is a NaN
fields_sign : (f : Format) (s : Bool) (x t : ℕ) → T (not (is_nan (of_fields f s x t))) → sign_of (of_fields f s x t) ≡ s
unfolding of_fields
fields_sign f s zero t h = odd_sign _ s t _ _
fields_sign f s (suc x) t h = special_sign s (eqb (suc x) (ones f)) (eqb t 0) _ (odd_sign (prec f) s (hid f + t) x (low f)) h

pub sign_bit : (f : Format) (x : Float) → T (fits f x) → T (not (is_nan x)) → leb (top f) (to_bits f x) ≡ sign_of x
unfolding of_bits
sign_bit f x fx h =
    let back : of_bits f (to_bits f x) ≡ x = of_bits-to_bits f x fx in
    sym (fields_sign f (leb (top f) (to_bits f x)) (to_bits f x % top f / hid f) (to_bits f x % hid f) (subst (λ (y : Float). T (not (is_nan y))) (sym back) h)) ∙ ap sign_of back

pub nan_sign : (x : Float) → ne x x ≡ true → false ≡ sign_of x
unfolding sign_of
nan_sign x h = rw (differs_from_itself x (subst T (sym h) tt))

-- What a branch on a test's answer b returns, where b is a definition's Bool: the two arms of `cond`.
pub yes : {A : Type 0} {b s : Bool} (x y : A) → b ≡ s → b ≡ true → x ≡ cond s x y
yes x y e t = rw (← e, t)

pub no : {A : Type 0} {b s : Bool} (x y : A) → b ≡ s → b ≡ false → y ≡ cond s x y
no x y e t = rw (← e, t)
