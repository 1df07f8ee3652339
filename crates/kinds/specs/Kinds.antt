-- The five record types by kind, and what a call over one leaves. Definitions only.
use Rattle.std.specs.Prelude.{ℕ, cond, List, eqb, Float, ℤ, Result, Ok, Err}
use Rattle.refusals.specs.declared.Refusal.{Refusal}
use Rattle.refusals.specs.declared.Refusal.TheVariants.{WrongLength}
use Rattle.calls.specs.declared.Binary.{Binary}
use Rattle.calls.specs.Called.{kind_of, called_of, operated_of, summed_of, multiplied_of}
use Rattle.calls.specs.Called as calls
use Rattle.dual.specs.declared.Dual as dual
use Rattle.dual2.specs.declared.Dual2 as dual2
use Rattle.dual3.specs.declared.Dual3 as dual3
use Rattle.hyperdual.specs.declared.HyperDual as hyperdual
use Rattle.hyperhyperdual.specs.declared.HyperHyperDual as hyperhyperdual
use Rattle.dual.specs.Rules.{dual_algebra, dual_layout, dual_nderiv, dual_derivatives}
use Rattle.dual2.specs.Rules.{dual2_algebra, dual2_layout, dual2_nderiv, dual2_derivatives}
use Rattle.dual3.specs.Rules.{dual3_algebra, dual3_layout, dual3_nderiv, dual3_derivatives}
use Rattle.hyperdual.specs.Rules.{hyper_dual_algebra, hyper_dual_layout, hyper_dual_nderiv, hyper_dual_derivatives}
use Rattle.hyperhyperdual.specs.Rules.{hyper_hyper_dual_algebra, hyper_hyper_dual_layout, hyper_hyper_dual_nderiv, hyper_hyper_dual_derivatives}
use Rattle.kinds.specs.declared.Kind.{Kind}
use Rattle.kinds.specs.declared.Kind.TheVariants.{Dual, Dual2, Dual3, HyperDual, HyperHyperDual}

-- what calls use of each record
abbrev pub dual_kind : calls.Kind dual.Dual
dual_kind = kind_of dual_algebra dual_layout dual_nderiv dual_derivatives

abbrev pub dual2_kind : calls.Kind dual2.Dual2
dual2_kind = kind_of dual2_algebra dual2_layout dual2_nderiv dual2_derivatives

abbrev pub dual3_kind : calls.Kind dual3.Dual3
dual3_kind = kind_of dual3_algebra dual3_layout dual3_nderiv dual3_derivatives

abbrev pub hyper_dual_kind : calls.Kind hyperdual.HyperDual
hyper_dual_kind = kind_of hyper_dual_algebra hyper_dual_layout hyper_dual_nderiv hyper_dual_derivatives

abbrev pub hyper_hyper_dual_kind : calls.Kind hyperhyperdual.HyperHyperDual
hyper_hyper_dual_kind = kind_of hyper_hyper_dual_algebra hyper_hyper_dual_layout hyper_hyper_dual_nderiv hyper_hyper_dual_derivatives

-- the kind of a number of the C interface; another number is refused 2
abbrev pub kind_at : ℕ → Result Kind Refusal
kind_at number =
    cond (eqb number 1) (Ok Dual)
    (cond (eqb number 2) (Ok Dual2)
    (cond (eqb number 3) (Ok Dual3)
    (cond (eqb number 4) (Ok HyperDual)
    (cond (eqb number 5) (Ok HyperHyperDual)
    (Err WrongLength)))))

-- what f makes of a record type
abbrev pub over : {T : Type 0} → ((R : Type 0) → calls.Kind R → T) → Kind → T
over f Dual = f _ dual_kind
over f Dual2 = f _ dual2_kind
over f Dual3 = f _ dual3_kind
over f HyperDual = f _ hyper_dual_kind
over f HyperHyperDual = f _ hyper_hyper_dual_kind

-- what the call of a function, an operation on two records, the sum and the product of a run leave
abbrev pub called_by : Kind → ℕ → ℤ → List ℕ → List ℕ → List ℕ → ℕ × List ℕ
called_by kind function exponent records floats out = over (λ R K. called_of K function exponent records floats out) kind

abbrev pub operated_by : Kind → Binary → List ℕ → List ℕ → ℕ × List ℕ
operated_by kind op records out = over (λ R K. operated_of K op records out) kind

abbrev pub summed_by : Kind → List Float → List Float → ℕ × List Float
summed_by kind run out = over (λ R K. summed_of K run out) kind

abbrev pub multiplied_by : Kind → List Float → List Float → ℕ × List Float
multiplied_by kind run out = over (λ R K. multiplied_of K run out) kind
