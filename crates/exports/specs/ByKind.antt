-- The five record types by the number of their kind, and what a call over one leaves. Definitions only.
use Rattle.std.specs.Prelude.{ℕ, List, Float, ℤ, Result, Ok, Err}
use Rattle.refusals.specs.Number as refusal
use Rattle.refusals.specs.declared.Refusal.{Refusal}
use Rattle.calls.specs.Called.{Kind, called_of, summed_of, multiplied_of}
use Rattle.kinds.specs.Kinds.{kind_at, over}
use Rattle.kinds.specs.declared.Kind as kinds

-- what f makes of the kind that was found, or the other where there is none
abbrev pub over_found : {T : Type 0} → ((R : Type 0) → Kind R → T) → Result kinds.Kind Refusal → T → T
over_found f (Ok kind) other = over f kind
over_found f (Err e) other = other

-- what f makes of the kind of that number, or the other where there is none
abbrev pub by_kind : {T : Type 0} → ((R : Type 0) → Kind R → T) → ℕ → T → T
by_kind f kind other = over_found f (kind_at kind) other

-- a call by function number: its number and out; an unknown kind is refused 2
unfoldable pub record_left : ℕ → ℕ → ℤ → List ℕ → List ℕ → List ℕ → ℕ × List ℕ
record_left kind function exponent records floats out = by_kind (λ R K. called_of K function exponent records floats out) kind (refusal.wrong_length, out)

-- the sum, the product of a run of flat floats
unfoldable pub sum_left : ℕ → List Float → List Float → ℕ × List Float
sum_left kind run out = by_kind (λ R K. summed_of K run out) kind (refusal.wrong_length, out)

unfoldable pub product_left : ℕ → List Float → List Float → ℕ × List Float
product_left kind run out = by_kind (λ R K. multiplied_of K run out) kind (refusal.wrong_length, out)
