-- The rules of `Dual2`, each a fixed sequence of operations, in the order and with the names of datatypes/dual2.rs and macros.rs; then `Dual2` as an
-- `Algebra`, over which everything else is defined, and its layout in flat floats. Definitions only.
use Rattle.std.specs.Prelude.{ℕ, List, [], ◌∷◌, Float}
use Rattle.std.specs.Float.Ieee.{neg}
use Rattle.real.specs.Operations.{◌⊕◌, ◌⊖◌, ◌⊗◌, ◌⊘◌, zero, one}
use Rattle.algebra.specs.Algebra.{Algebra}
use Rattle.algebra.specs.Flat.{Layout, decode}
use Rattle.algebra.specs.Outcome.{Outcome, value, refused}
use Rattle.refusals.specs.Number as refusal
use Rattle.records.specs.declared.Derivative.{Derivative}
use Rattle.records.specs.declared.Derivative.TheVariants.{Only, First, Second, Third}
use Rattle.dual2.specs.declared.Dual2.{Dual2}

-- a record by its parts
abbrev pub dual2 : Float → Float → Float → Dual2
dual2 re v1 v2 = record { re = re; v1 = v1; v2 = v2 }

-- the derivative part set to 1
abbrev pub dual2_derivative : Dual2 → Dual2
dual2_derivative self = dual2 self.re one self.v2

-- which of its kin the record has: `derivative` alone, and each other is refused 2
abbrev pub dual2_derivatives : Derivative → Dual2 → Outcome Dual2
dual2_derivatives Only x = value (dual2_derivative x)
dual2_derivatives First x = refused refusal.wrong_length
dual2_derivatives Second x = refused refusal.wrong_length
dual2_derivatives Third x = refused refusal.wrong_length

-- a real part alone
abbrev pub dual2_from_re : Float → Dual2
dual2_from_re re = dual2 re zero zero

-- chain rule
unfoldable pub dual2_chain : Dual2 → Float → Float → Float → Dual2
dual2_chain self f0 f1 f2 = dual2 f0 (self.v1 ⊗ f1) (self.v2 ⊗ f1 ⊕ self.v1 ⊗ self.v1 ⊗ f2)

-- product rule
unfoldable pub dual2_mul : Dual2 → Dual2 → Dual2
dual2_mul self other =
    dual2
    (self.re ⊗ other.re)
    (other.v1 ⊗ self.re ⊕ self.v1 ⊗ other.re)
    (other.v2 ⊗ self.re ⊕ self.v1 ⊗ other.v1 ⊕ other.v1 ⊗ self.v1 ⊕ self.v2 ⊗ other.re)

-- quotient rule
unfoldable pub dual2_div : Dual2 → Dual2 → Dual2
dual2_div self other =
    let inv = one ⊘ other.re in
    let inv2 = inv ⊗ inv in
    dual2
    (self.re ⊗ inv)
    ((self.v1 ⊗ other.re ⊖ other.v1 ⊗ self.re) ⊗ inv2)
    (self.v2 ⊗ inv
    ⊖ (other.v2 ⊗ self.re ⊕ self.v1 ⊗ other.v1 ⊕ other.v1 ⊗ self.v1) ⊗ inv2
    ⊕ other.v1 ⊗ other.v1 ⊗ ((one ⊕ one) ⊗ self.re ⊗ inv2 ⊗ inv))

-- part by part
unfoldable pub dual2_add : Dual2 → Dual2 → Dual2
dual2_add self other = dual2 (self.re ⊕ other.re) (self.v1 ⊕ other.v1) (self.v2 ⊕ other.v2)

unfoldable pub dual2_sub : Dual2 → Dual2 → Dual2
dual2_sub self other = dual2 (self.re ⊖ other.re) (self.v1 ⊖ other.v1) (self.v2 ⊖ other.v2)

unfoldable pub dual2_neg : Dual2 → Dual2
dual2_neg self = dual2 (neg self.re) (neg self.v1) (neg self.v2)

-- a plain float multiplies or divides each part
unfoldable pub dual2_mul_float : Dual2 → Float → Dual2
dual2_mul_float self other = dual2 (self.re ⊗ other) (self.v1 ⊗ other) (self.v2 ⊗ other)

unfoldable pub dual2_div_float : Dual2 → Float → Dual2
dual2_div_float self other = dual2 (self.re ⊘ other) (self.v1 ⊘ other) (self.v2 ⊘ other)

-- the highest order of a derivative that the record carries: NDERIV
abbrev pub dual2_nderiv : ℕ
dual2_nderiv = 2

-- `Dual2` by its operations
abbrev pub dual2_algebra : Algebra Dual2
dual2_algebra = record {
  re = λ x. x.re;
  from_re = dual2_from_re;
  with_re = λ x re. dual2 re x.v1 x.v2;
  add = dual2_add;
  sub = dual2_sub;
  mul = dual2_mul;
  div = dual2_div;
  neg = dual2_neg;
  mul_float = dual2_mul_float;
  div_float = dual2_div_float;
  chain = λ x f0 f1 f2 f3. dual2_chain x f0 f1 f2;
}

-- three floats a record: re, v1, v2
abbrev pub dual2_layout : Layout Dual2
dual2_layout = record {
  width = 3;
  parts = λ x. x.re ∷ x.v1 ∷ x.v2 ∷ [];
  make = λ part. dual2 (part 0) (part 1) (part 2);
}

-- the records that flat floats hold
abbrev pub dual2_records : List Float → List Dual2
dual2_records l = decode dual2_layout l
