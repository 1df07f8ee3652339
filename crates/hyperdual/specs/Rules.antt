-- The rules of `HyperDual`, each a fixed sequence of operations, in the order and with the names of datatypes/hyperdual.rs and macros.rs; then
-- `HyperDual` as an `Algebra`, over which everything else is defined, and its layout in flat floats. Definitions only.
use Rattle.std.specs.Prelude.{ℕ, List, [], ◌∷◌, Float}
use Rattle.std.specs.Float.Ieee.{neg}
use Rattle.real.specs.Operations.{◌⊕◌, ◌⊖◌, ◌⊗◌, ◌⊘◌, zero, one}
use Rattle.algebra.specs.Algebra.{Algebra}
use Rattle.algebra.specs.Flat.{Layout, decode}
use Rattle.algebra.specs.Outcome.{Outcome, value, refused}
use Rattle.refusals.specs.Number as refusal
use Rattle.records.specs.declared.Derivative.{Derivative}
use Rattle.records.specs.declared.Derivative.TheVariants.{Only, First, Second, Third}
use Rattle.hyperdual.specs.declared.HyperDual.{HyperDual}

-- a record by its parts
abbrev pub hyper_dual : Float → Float → Float → Float → HyperDual
hyper_dual re eps1 eps2 eps1eps2 = record { re = re; eps1 = eps1; eps2 = eps2; eps1eps2 = eps1eps2 }

-- the partial derivative part w.r.t. the 1st variable set to 1
abbrev pub hyper_dual_derivative1 : HyperDual → HyperDual
hyper_dual_derivative1 self = hyper_dual self.re one self.eps2 self.eps1eps2

-- the partial derivative part w.r.t. the 2nd variable set to 1
abbrev pub hyper_dual_derivative2 : HyperDual → HyperDual
hyper_dual_derivative2 self = hyper_dual self.re self.eps1 one self.eps1eps2

-- which of its kin the record has: `derivative1` and `derivative2`, and each other is refused 2
abbrev pub hyper_dual_derivatives : Derivative → HyperDual → Outcome HyperDual
hyper_dual_derivatives Only x = refused refusal.wrong_length
hyper_dual_derivatives First x = value (hyper_dual_derivative1 x)
hyper_dual_derivatives Second x = value (hyper_dual_derivative2 x)
hyper_dual_derivatives Third x = refused refusal.wrong_length

-- a real part alone
abbrev pub hyper_dual_from_re : Float → HyperDual
hyper_dual_from_re re = hyper_dual re zero zero zero

-- chain rule
unfoldable pub hyper_dual_chain : HyperDual → Float → Float → Float → HyperDual
hyper_dual_chain self f0 f1 f2 =
    hyper_dual
    f0
    (self.eps1 ⊗ f1)
    (self.eps2 ⊗ f1)
    (self.eps1eps2 ⊗ f1 ⊕ self.eps1 ⊗ self.eps2 ⊗ f2)

-- product rule
unfoldable pub hyper_dual_mul : HyperDual → HyperDual → HyperDual
hyper_dual_mul self other =
    hyper_dual
    (self.re ⊗ other.re)
    (other.eps1 ⊗ self.re ⊕ self.eps1 ⊗ other.re)
    (other.eps2 ⊗ self.re ⊕ self.eps2 ⊗ other.re)
    (other.eps1eps2 ⊗ self.re ⊕ self.eps1 ⊗ other.eps2 ⊕ other.eps1 ⊗ self.eps2 ⊕ self.eps1eps2 ⊗ other.re)

-- quotient rule
unfoldable pub hyper_dual_div : HyperDual → HyperDual → HyperDual
hyper_dual_div self other =
    let inv = one ⊘ other.re in
    let inv2 = inv ⊗ inv in
    hyper_dual
    (self.re ⊗ inv)
    ((self.eps1 ⊗ other.re ⊖ other.eps1 ⊗ self.re) ⊗ inv2)
    ((self.eps2 ⊗ other.re ⊖ other.eps2 ⊗ self.re) ⊗ inv2)
    (self.eps1eps2 ⊗ inv ⊖ (other.eps1eps2 ⊗ self.re ⊕ self.eps1 ⊗ other.eps2 ⊕ other.eps1 ⊗ self.eps2) ⊗ inv2 ⊕ other.eps1 ⊗ other.eps2 ⊗ ((one ⊕ one) ⊗ self.re ⊗ inv2 ⊗ inv))

-- part by part
unfoldable pub hyper_dual_add : HyperDual → HyperDual → HyperDual
hyper_dual_add self other = hyper_dual (self.re ⊕ other.re) (self.eps1 ⊕ other.eps1) (self.eps2 ⊕ other.eps2) (self.eps1eps2 ⊕ other.eps1eps2)

unfoldable pub hyper_dual_sub : HyperDual → HyperDual → HyperDual
hyper_dual_sub self other = hyper_dual (self.re ⊖ other.re) (self.eps1 ⊖ other.eps1) (self.eps2 ⊖ other.eps2) (self.eps1eps2 ⊖ other.eps1eps2)

unfoldable pub hyper_dual_neg : HyperDual → HyperDual
hyper_dual_neg self = hyper_dual (neg self.re) (neg self.eps1) (neg self.eps2) (neg self.eps1eps2)

-- a plain float multiplies or divides each part
unfoldable pub hyper_dual_mul_float : HyperDual → Float → HyperDual
hyper_dual_mul_float self other = hyper_dual (self.re ⊗ other) (self.eps1 ⊗ other) (self.eps2 ⊗ other) (self.eps1eps2 ⊗ other)

unfoldable pub hyper_dual_div_float : HyperDual → Float → HyperDual
hyper_dual_div_float self other = hyper_dual (self.re ⊘ other) (self.eps1 ⊘ other) (self.eps2 ⊘ other) (self.eps1eps2 ⊘ other)

-- the highest order of a derivative that the record carries: NDERIV
abbrev pub hyper_dual_nderiv : ℕ
hyper_dual_nderiv = 2

-- `HyperDual` by its operations
abbrev pub hyper_dual_algebra : Algebra HyperDual
hyper_dual_algebra = record {
  re = λ x. x.re;
  from_re = hyper_dual_from_re;
  with_re = λ x re. hyper_dual re x.eps1 x.eps2 x.eps1eps2;
  add = hyper_dual_add;
  sub = hyper_dual_sub;
  mul = hyper_dual_mul;
  div = hyper_dual_div;
  neg = hyper_dual_neg;
  mul_float = hyper_dual_mul_float;
  div_float = hyper_dual_div_float;
  chain = λ x f0 f1 f2 f3. hyper_dual_chain x f0 f1 f2;
}

-- four floats a record: re, eps1, eps2, eps1eps2
abbrev pub hyper_dual_layout : Layout HyperDual
hyper_dual_layout = record {
  width = 4;
  parts = λ x. x.re ∷ x.eps1 ∷ x.eps2 ∷ x.eps1eps2 ∷ [];
  make = λ part. hyper_dual (part 0) (part 1) (part 2) (part 3);
}

-- the records that flat floats hold
abbrev pub hyper_dual_records : List Float → List HyperDual
hyper_dual_records l = decode hyper_dual_layout l
