-- What the algorithms use of a record type: one instance a record. Definitions only.
use Rattle.std.specs.Prelude.{◌≡◌, cond, Float}
use Rattle.std.specs.Float.Ieee.{neg}
use Rattle.real.specs.Operations.{◌⊕◌, ◌⊖◌, ◌⊗◌, ◌⊘◌, zero, one}
use Rattle.real.specs.Sign.{sign_of}

-- A record type R by its operations, named as the Rust names them.
pub record Algebra (R : Type 0) : Type 0 where
  -- the real part, the record of a real part alone, and a record with another real part
  pub re : R → Float
  pub from_re : Float → R
  pub with_re : R → Float → R
  pub add : R → R → R
  pub sub : R → R → R
  pub mul : R → R → R
  pub div : R → R → R
  pub neg : R → R
  -- a plain float multiplies or divides each part
  pub mul_float : R → Float → R
  pub div_float : R → Float → R
  -- the record of f(x), from f's value and its first three derivatives at the real part of x
  pub chain : R → Float → Float → Float → Float → R

-- The real parts alone: what each operation of a record does to them. A quotient multiplies with the reciprocal.
abbrev pub reals : Algebra Float
reals = record {
  re = λ x. x;
  from_re = λ x. x;
  with_re = λ x f. f;
  add = ◌⊕◌;
  sub = ◌⊖◌;
  mul = ◌⊗◌;
  div = λ x y. x ⊗ (one ⊘ y);
  neg = neg;
  mul_float = ◌⊗◌;
  div_float = ◌⊘◌;
  chain = λ x f0 f1 f2 f3. f0;
}

-- The map h keeps the operations and the real part: to map what is done over A is to do it over B on what is mapped.
pub record Keeps {R S : Type 0} (A : Algebra R) (B : Algebra S) (h : R → S) : Type 0 where
  pub re : (x : R) → A.re x ≡ B.re (h x)
  pub from_re : (f : Float) → h (A.from_re f) ≡ B.from_re f
  pub with_re : (x : R) (f : Float) → h (A.with_re x f) ≡ B.with_re (h x) f
  pub add : (x y : R) → h (A.add x y) ≡ B.add (h x) (h y)
  pub sub : (x y : R) → h (A.sub x y) ≡ B.sub (h x) (h y)
  pub mul : (x y : R) → h (A.mul x y) ≡ B.mul (h x) (h y)
  pub div : (x y : R) → h (A.div x y) ≡ B.div (h x) (h y)
  pub neg : (x : R) → h (A.neg x) ≡ B.neg (h x)
  pub mul_float : (x : R) (f : Float) → h (A.mul_float x f) ≡ B.mul_float (h x) f
  pub div_float : (x : R) (f : Float) → h (A.div_float x f) ≡ B.div_float (h x) f
  pub chain : (x : R) (f0 f1 f2 f3 : Float) → h (A.chain x f0 f1 f2 f3) ≡ B.chain (h x) f0 f1 f2 f3

-- Real parts come from real parts alone: what each record's instance is proved to be.
abbrev pub RealParts : {R : Type 0} → Algebra R → Type 0
RealParts A = Keeps A reals A.re

-- What every record has of these: the constants zero and one, sums with a plain float, the magnitude.
module _ {R : Type 0} (A : Algebra R) where
  abbrev pub zero_of : R
  zero_of = A.from_re zero

  abbrev pub one_of : R
  one_of = A.from_re one

  -- a plain float is added to re alone
  abbrev pub add_float : R → Float → R
  add_float x f = A.with_re x (A.re x ⊕ f)

  -- a plain float is taken from re alone
  abbrev pub sub_float : R → Float → R
  sub_float x f = A.with_re x (A.re x ⊖ f)

  -- x where the sign bit of re is clear, else -x
  abbrev pub magnitude : R → R
  magnitude x = cond (sign_of (A.re x)) (A.neg x) x
