-- The rules of `Dual3`, each a fixed sequence of operations, in the order and with the names of datatypes/dual3.rs and macros.rs; then `Dual3` as an
-- `Algebra`, over which everything else is defined, and its layout in flat floats. Definitions only.
use Rattle.std.specs.Prelude.{ℕ, List, [], ◌∷◌, Float}
use Rattle.std.specs.Float.Ieee.{neg}
use Rattle.real.specs.Operations.{◌⊕◌, ◌⊖◌, ◌⊗◌, ◌⊘◌, zero, one}
use Rattle.algebra.specs.Algebra.{Algebra}
use Rattle.algebra.specs.Flat.{Layout, decode}
use Rattle.algebra.specs.Outcome.{Outcome, value, refused}
use Rattle.derivatives.specs.Series.{recip_series}
use Rattle.refusals.specs.Number as refusal
use Rattle.records.specs.declared.Derivative.{Derivative}
use Rattle.records.specs.declared.Derivative.TheVariants.{Only, First, Second, Third}
use Rattle.dual3.specs.declared.Dual3.{Dual3}

-- a record by its parts
abbrev pub dual3 : Float → Float → Float → Float → Dual3
dual3 re v1 v2 v3 = record { re = re; v1 = v1; v2 = v2; v3 = v3 }

-- a real part alone
abbrev pub dual3_from_re : Float → Dual3
dual3_from_re re = dual3 re zero zero zero

-- the first derivative part set to 1
abbrev pub dual3_derivative : Dual3 → Dual3
dual3_derivative self = dual3 self.re one self.v2 self.v3

-- which of its kin the record has: `derivative` alone, and each other is refused 2
abbrev pub dual3_derivatives : Derivative → Dual3 → Outcome Dual3
dual3_derivatives Only x = value (dual3_derivative x)
dual3_derivatives First x = refused refusal.wrong_length
dual3_derivatives Second x = refused refusal.wrong_length
dual3_derivatives Third x = refused refusal.wrong_length

-- chain rule
unfoldable pub dual3_chain : Dual3 → Float → Float → Float → Float → Dual3
dual3_chain self f0 f1 f2 f3 =
    let three = one ⊕ one ⊕ one in
    dual3
    f0
    (f1 ⊗ self.v1)
    (f2 ⊗ self.v1 ⊗ self.v1 ⊕ f1 ⊗ self.v2)
    (f3 ⊗ self.v1 ⊗ self.v1 ⊗ self.v1 ⊕ three ⊗ f2 ⊗ self.v1 ⊗ self.v2 ⊕ f1 ⊗ self.v3)

-- product rule
unfoldable pub dual3_mul : Dual3 → Dual3 → Dual3
dual3_mul self rhs =
    let two = one ⊕ one in
    let three = one ⊕ two in
    dual3
    (self.re ⊗ rhs.re)
    (self.v1 ⊗ rhs.re ⊕ self.re ⊗ rhs.v1)
    (self.v2 ⊗ rhs.re ⊕ two ⊗ self.v1 ⊗ rhs.v1 ⊕ self.re ⊗ rhs.v2)
    (self.v3 ⊗ rhs.re ⊕ three ⊗ (self.v2 ⊗ rhs.v1 ⊕ self.v1 ⊗ rhs.v2) ⊕ self.re ⊗ rhs.v3)

-- quotient rule: the product with the chain rule of the reciprocal, whose rec, f0, f1, f2, f3 are `recip_series`
unfoldable pub dual3_div : Dual3 → Dual3 → Dual3
dual3_div self rhs =
    let s = recip_series rhs.re in
    dual3_mul self (dual3_chain rhs s.f0 s.f1 s.f2 s.f3)

-- part by part
unfoldable pub dual3_add : Dual3 → Dual3 → Dual3
dual3_add self other = dual3 (self.re ⊕ other.re) (self.v1 ⊕ other.v1) (self.v2 ⊕ other.v2) (self.v3 ⊕ other.v3)

unfoldable pub dual3_sub : Dual3 → Dual3 → Dual3
dual3_sub self other = dual3 (self.re ⊖ other.re) (self.v1 ⊖ other.v1) (self.v2 ⊖ other.v2) (self.v3 ⊖ other.v3)

unfoldable pub dual3_neg : Dual3 → Dual3
dual3_neg self = dual3 (neg self.re) (neg self.v1) (neg self.v2) (neg self.v3)

-- a plain float multiplies or divides each part
unfoldable pub dual3_mul_float : Dual3 → Float → Dual3
dual3_mul_float self other = dual3 (self.re ⊗ other) (self.v1 ⊗ other) (self.v2 ⊗ other) (self.v3 ⊗ other)

unfoldable pub dual3_div_float : Dual3 → Float → Dual3
dual3_div_float self other = dual3 (self.re ⊘ other) (self.v1 ⊘ other) (self.v2 ⊘ other) (self.v3 ⊘ other)

-- the highest order of a derivative that the record carries: NDERIV
abbrev pub dual3_nderiv : ℕ
dual3_nderiv = 3

-- `Dual3` by its operations
abbrev pub dual3_algebra : Algebra Dual3
dual3_algebra = record {
  re = λ x. x.re;
  from_re = dual3_from_re;
  with_re = λ x re. dual3 re x.v1 x.v2 x.v3;
  add = dual3_add;
  sub = dual3_sub;
  mul = dual3_mul;
  div = dual3_div;
  neg = dual3_neg;
  mul_float = dual3_mul_float;
  div_float = dual3_div_float;
  chain = dual3_chain;
}

-- four floats a record: re, v1, v2, v3
abbrev pub dual3_layout : Layout Dual3
dual3_layout = record {
  width = 4;
  parts = λ x. x.re ∷ x.v1 ∷ x.v2 ∷ x.v3 ∷ [];
  make = λ part. dual3 (part 0) (part 1) (part 2) (part 3);
}

-- the records that flat floats hold
abbrev pub dual3_records : List Float → List Dual3
dual3_records l = decode dual3_layout l
