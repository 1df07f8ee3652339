-- The rules of `HyperHyperDual`, each a fixed sequence of operations, in the order and with the names of datatypes/hyperhyperdual.rs and
-- macros.rs; then `HyperHyperDual` as an `Algebra`, over which everything else is defined, and its layout in flat floats. Definitions only.
use Rattle.std.specs.Prelude.{ℕ, List, [], ◌∷◌, Float}
use Rattle.std.specs.Float.Ieee.{neg}
use Rattle.real.specs.Operations.{◌⊕◌, ◌⊖◌, ◌⊗◌, ◌⊘◌, zero, one}
use Rattle.algebra.specs.Algebra.{Algebra}
use Rattle.algebra.specs.Flat.{Layout, decode}
use Rattle.algebra.specs.Outcome.{Outcome, value, refused}
use Rattle.derivatives.specs.Series.{recip_series}
use Rattle.refusals.specs.Number as refusal
use Rattle.records.specs.declared.Derivative.{Derivative}
use Rattle.records.specs.declared.Derivative.TheVariants.{Only, First, Second, Third}
use Rattle.hyperhyperdual.specs.declared.HyperHyperDual.{HyperHyperDual}

-- a record by its parts
abbrev pub hyper_hyper_dual : Float → Float → Float → Float → Float → Float → Float → Float → HyperHyperDual
hyper_hyper_dual re eps1 eps2 eps3 eps1eps2 eps1eps3 eps2eps3 eps1eps2eps3 = record { re = re; eps1 = eps1; eps2 = eps2; eps3 = eps3; eps1eps2 = eps1eps2; eps1eps3 = eps1eps3; eps2eps3 = eps2eps3; eps1eps2eps3 = eps1eps2eps3 }

-- the partial derivative part w.r.t. the 1st variable set to 1
abbrev pub hyper_hyper_dual_derivative1 : HyperHyperDual → HyperHyperDual
hyper_hyper_dual_derivative1 self = hyper_hyper_dual self.re one self.eps2 self.eps3 self.eps1eps2 self.eps1eps3 self.eps2eps3 self.eps1eps2eps3

-- the partial derivative part w.r.t. the 2nd variable set to 1
abbrev pub hyper_hyper_dual_derivative2 : HyperHyperDual → HyperHyperDual
hyper_hyper_dual_derivative2 self = hyper_hyper_dual self.re self.eps1 one self.eps3 self.eps1eps2 self.eps1eps3 self.eps2eps3 self.eps1eps2eps3

-- the partial derivative part w.r.t. the 3rd variable set to 1
abbrev pub hyper_hyper_dual_derivative3 : HyperHyperDual → HyperHyperDual
hyper_hyper_dual_derivative3 self = hyper_hyper_dual self.re self.eps1 self.eps2 one self.eps1eps2 self.eps1eps3 self.eps2eps3 self.eps1eps2eps3

-- which of its kin the record has: `derivative1`, `derivative2` and `derivative3`, and each other is refused 2
abbrev pub hyper_hyper_dual_derivatives : Derivative → HyperHyperDual → Outcome HyperHyperDual
hyper_hyper_dual_derivatives Only x = refused refusal.wrong_length
hyper_hyper_dual_derivatives First x = value (hyper_hyper_dual_derivative1 x)
hyper_hyper_dual_derivatives Second x = value (hyper_hyper_dual_derivative2 x)
hyper_hyper_dual_derivatives Third x = value (hyper_hyper_dual_derivative3 x)

-- a real part alone
abbrev pub hyper_hyper_dual_from_re : Float → HyperHyperDual
hyper_hyper_dual_from_re re = hyper_hyper_dual re zero zero zero zero zero zero zero

-- chain rule
unfoldable pub hyper_hyper_dual_chain : HyperHyperDual → Float → Float → Float → Float → HyperHyperDual
hyper_hyper_dual_chain self f0 f1 f2 f3 =
    hyper_hyper_dual
    f0
    (f1 ⊗ self.eps1)
    (f1 ⊗ self.eps2)
    (f1 ⊗ self.eps3)
    (f1 ⊗ self.eps1eps2 ⊕ f2 ⊗ self.eps1 ⊗ self.eps2)
    (f1 ⊗ self.eps1eps3 ⊕ f2 ⊗ self.eps1 ⊗ self.eps3)
    (f1 ⊗ self.eps2eps3 ⊕ f2 ⊗ self.eps2 ⊗ self.eps3)
    (f1 ⊗ self.eps1eps2eps3 ⊕ f2 ⊗ (self.eps1 ⊗ self.eps2eps3 ⊕ self.eps2 ⊗ self.eps1eps3 ⊕ self.eps3 ⊗ self.eps1eps2) ⊕ f3 ⊗ self.eps1 ⊗ self.eps2 ⊗ self.eps3)

-- product rule
unfoldable pub hyper_hyper_dual_mul : HyperHyperDual → HyperHyperDual → HyperHyperDual
hyper_hyper_dual_mul self rhs =
    hyper_hyper_dual
    (self.re ⊗ rhs.re)
    (self.eps1 ⊗ rhs.re ⊕ self.re ⊗ rhs.eps1)
    (self.eps2 ⊗ rhs.re ⊕ self.re ⊗ rhs.eps2)
    (self.eps3 ⊗ rhs.re ⊕ self.re ⊗ rhs.eps3)
    (self.eps1eps2 ⊗ rhs.re ⊕ self.eps1 ⊗ rhs.eps2 ⊕ self.eps2 ⊗ rhs.eps1 ⊕ self.re ⊗ rhs.eps1eps2)
    (self.eps1eps3 ⊗ rhs.re ⊕ self.eps1 ⊗ rhs.eps3 ⊕ self.eps3 ⊗ rhs.eps1 ⊕ self.re ⊗ rhs.eps1eps3)
    (self.eps2eps3 ⊗ rhs.re ⊕ self.eps2 ⊗ rhs.eps3 ⊕ self.eps3 ⊗ rhs.eps2 ⊕ self.re ⊗ rhs.eps2eps3)
    (self.eps1eps2eps3 ⊗ rhs.re ⊕ self.eps1 ⊗ rhs.eps2eps3 ⊕ self.eps2 ⊗ rhs.eps1eps3 ⊕ self.eps3 ⊗ rhs.eps1eps2 ⊕ self.eps2eps3 ⊗ rhs.eps1 ⊕ self.eps1eps3 ⊗ rhs.eps2 ⊕ self.eps1eps2 ⊗ rhs.eps3 ⊕ self.re ⊗ rhs.eps1eps2eps3)

-- the product with the chain rule of the reciprocal
unfoldable pub hyper_hyper_dual_div : HyperHyperDual → HyperHyperDual → HyperHyperDual
hyper_hyper_dual_div self rhs =
    let rec = recip_series rhs.re in
    hyper_hyper_dual_mul self (hyper_hyper_dual_chain rhs rec.f0 rec.f1 rec.f2 rec.f3)

-- part by part
unfoldable pub hyper_hyper_dual_add : HyperHyperDual → HyperHyperDual → HyperHyperDual
hyper_hyper_dual_add self other =
    hyper_hyper_dual
    (self.re ⊕ other.re)
    (self.eps1 ⊕ other.eps1)
    (self.eps2 ⊕ other.eps2)
    (self.eps3 ⊕ other.eps3)
    (self.eps1eps2 ⊕ other.eps1eps2)
    (self.eps1eps3 ⊕ other.eps1eps3)
    (self.eps2eps3 ⊕ other.eps2eps3)
    (self.eps1eps2eps3 ⊕ other.eps1eps2eps3)

unfoldable pub hyper_hyper_dual_sub : HyperHyperDual → HyperHyperDual → HyperHyperDual
hyper_hyper_dual_sub self other =
    hyper_hyper_dual
    (self.re ⊖ other.re)
    (self.eps1 ⊖ other.eps1)
    (self.eps2 ⊖ other.eps2)
    (self.eps3 ⊖ other.eps3)
    (self.eps1eps2 ⊖ other.eps1eps2)
    (self.eps1eps3 ⊖ other.eps1eps3)
    (self.eps2eps3 ⊖ other.eps2eps3)
    (self.eps1eps2eps3 ⊖ other.eps1eps2eps3)

unfoldable pub hyper_hyper_dual_neg : HyperHyperDual → HyperHyperDual
hyper_hyper_dual_neg self =
    hyper_hyper_dual
    (neg self.re)
    (neg self.eps1)
    (neg self.eps2)
    (neg self.eps3)
    (neg self.eps1eps2)
    (neg self.eps1eps3)
    (neg self.eps2eps3)
    (neg self.eps1eps2eps3)

-- a plain float multiplies or divides each part
unfoldable pub hyper_hyper_dual_mul_float : HyperHyperDual → Float → HyperHyperDual
hyper_hyper_dual_mul_float self other =
    hyper_hyper_dual
    (self.re ⊗ other)
    (self.eps1 ⊗ other)
    (self.eps2 ⊗ other)
    (self.eps3 ⊗ other)
    (self.eps1eps2 ⊗ other)
    (self.eps1eps3 ⊗ other)
    (self.eps2eps3 ⊗ other)
    (self.eps1eps2eps3 ⊗ other)

unfoldable pub hyper_hyper_dual_div_float : HyperHyperDual → Float → HyperHyperDual
hyper_hyper_dual_div_float self other =
    hyper_hyper_dual
    (self.re ⊘ other)
    (self.eps1 ⊘ other)
    (self.eps2 ⊘ other)
    (self.eps3 ⊘ other)
    (self.eps1eps2 ⊘ other)
    (self.eps1eps3 ⊘ other)
    (self.eps2eps3 ⊘ other)
    (self.eps1eps2eps3 ⊘ other)

-- the highest order of a derivative that the record carries: NDERIV
abbrev pub hyper_hyper_dual_nderiv : ℕ
hyper_hyper_dual_nderiv = 3

-- `HyperHyperDual` by its operations
abbrev pub hyper_hyper_dual_algebra : Algebra HyperHyperDual
hyper_hyper_dual_algebra = record {
  re = λ x. x.re;
  from_re = hyper_hyper_dual_from_re;
  with_re = λ x re. hyper_hyper_dual re x.eps1 x.eps2 x.eps3 x.eps1eps2 x.eps1eps3 x.eps2eps3 x.eps1eps2eps3;
  add = hyper_hyper_dual_add;
  sub = hyper_hyper_dual_sub;
  mul = hyper_hyper_dual_mul;
  div = hyper_hyper_dual_div;
  neg = hyper_hyper_dual_neg;
  mul_float = hyper_hyper_dual_mul_float;
  div_float = hyper_hyper_dual_div_float;
  chain = hyper_hyper_dual_chain;
}

-- eight floats a record: re, eps1, eps2, eps3, eps1eps2, eps1eps3, eps2eps3, eps1eps2eps3
abbrev pub hyper_hyper_dual_layout : Layout HyperHyperDual
hyper_hyper_dual_layout = record {
  width = 8;
  parts = λ x. x.re ∷ x.eps1 ∷ x.eps2 ∷ x.eps3 ∷ x.eps1eps2 ∷ x.eps1eps3 ∷ x.eps2eps3 ∷ x.eps1eps2eps3 ∷ [];
  make = λ part. hyper_hyper_dual (part 0) (part 1) (part 2) (part 3) (part 4) (part 5) (part 6) (part 7);
}

-- the records that flat floats hold
abbrev pub hyper_hyper_dual_records : List Float → List HyperHyperDual
hyper_hyper_dual_records l = decode hyper_hyper_dual_layout l
