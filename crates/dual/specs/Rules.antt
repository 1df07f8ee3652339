-- The rules of `Dual`, each a fixed sequence of operations, in the order and with the names of datatypes/dual.rs and macros.rs; then `Dual` as an
-- `Algebra`, over which everything else is defined, and its layout in flat floats. Definitions only.
use Rattle.std.specs.Prelude.{ℕ, List, [], ◌∷◌, Float}
use Rattle.std.specs.Float.Ieee.{neg}
use Rattle.real.specs.Operations.{◌⊕◌, ◌⊖◌, ◌⊗◌, ◌⊘◌, zero, one}
use Rattle.algebra.specs.Algebra.{Algebra}
use Rattle.algebra.specs.Flat.{Layout, decode}
use Rattle.algebra.specs.Outcome.{Outcome, value, refused}
use Rattle.refusals.specs.Number as refusal
use Rattle.records.specs.declared.Derivative.{Derivative}
use Rattle.records.specs.declared.Derivative.TheVariants.{Only, First, Second, Third}
use Rattle.dual.specs.declared.Dual.{Dual}

-- a record by its parts
abbrev pub dual : Float → Float → Dual
dual re eps = record { re = re; eps = eps }

-- a real part alone
abbrev pub dual_from_re : Float → Dual
dual_from_re re = dual re zero

-- the derivative part set to 1
abbrev pub dual_derivative : Dual → Dual
dual_derivative self = dual self.re one

-- which of its kin the record has: `derivative` alone, and each other is refused 2
abbrev pub dual_derivatives : Derivative → Dual → Outcome Dual
dual_derivatives Only x = value (dual_derivative x)
dual_derivatives First x = refused refusal.wrong_length
dual_derivatives Second x = refused refusal.wrong_length
dual_derivatives Third x = refused refusal.wrong_length

-- chain rule
unfoldable pub dual_chain : Dual → Float → Float → Dual
dual_chain self f0 f1 = dual f0 (self.eps ⊗ f1)

-- product rule
unfoldable pub dual_mul : Dual → Dual → Dual
dual_mul self other = dual (self.re ⊗ other.re) (self.eps ⊗ other.re ⊕ other.eps ⊗ self.re)

-- quotient rule
unfoldable pub dual_div : Dual → Dual → Dual
dual_div self other =
    let inv = one ⊘ other.re in
    dual (self.re ⊗ inv) ((self.eps ⊗ other.re ⊖ other.eps ⊗ self.re) ⊗ inv ⊗ inv)

-- part by part
unfoldable pub dual_add : Dual → Dual → Dual
dual_add self other = dual (self.re ⊕ other.re) (self.eps ⊕ other.eps)

unfoldable pub dual_sub : Dual → Dual → Dual
dual_sub self other = dual (self.re ⊖ other.re) (self.eps ⊖ other.eps)

unfoldable pub dual_neg : Dual → Dual
dual_neg self = dual (neg self.re) (neg self.eps)

-- a plain float multiplies or divides each part
unfoldable pub dual_mul_float : Dual → Float → Dual
dual_mul_float self other = dual (self.re ⊗ other) (self.eps ⊗ other)

unfoldable pub dual_div_float : Dual → Float → Dual
dual_div_float self other = dual (self.re ⊘ other) (self.eps ⊘ other)

-- the highest order of a derivative that the record carries: NDERIV
abbrev pub dual_nderiv : ℕ
dual_nderiv = 1

-- `Dual` by its operations
abbrev pub dual_algebra : Algebra Dual
dual_algebra = record {
  re = λ x. x.re;
  from_re = dual_from_re;
  with_re = λ x re. dual re x.eps;
  add = dual_add;
  sub = dual_sub;
  mul = dual_mul;
  div = dual_div;
  neg = dual_neg;
  mul_float = dual_mul_float;
  div_float = dual_div_float;
  chain = λ x f0 f1 f2 f3. dual_chain x f0 f1;
}

-- two floats a record: re, eps
abbrev pub dual_layout : Layout Dual
dual_layout = record {
  width = 2;
  parts = λ x. x.re ∷ x.eps ∷ [];
  make = λ part. dual (part 0) (part 1);
}

-- the records that flat floats hold
abbrev pub dual_records : List Float → List Dual
dual_records l = decode dual_layout l
