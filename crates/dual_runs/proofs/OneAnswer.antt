-- No second answer meets the promise of `sum` or `product`: the `ensures` of each is a plain fact of the answer and the run that is lent, whatever the
-- parameters at exit, and that fact leaves one answer. What is lent is read alone. Assumes nothing.
use mathlib.Core.Path.{◌≡◌, refl, sym, ◌∙◌}
use mathlib.Core.List.{List}
use seplogic.Ra.Ura.{Ura}
use base.Logic.{SProp}
use prog.Memory.{Memory}
use prog.Routine.{Routine}
use types.Logic.{Logic}
use contract.Monad.{Fun, fact}
use contract.Lifetimes.{Lfts}
use denote.Triple.Entry.{Args}
use denote.Triple.Clauses.{AtExit}
use Rattle.algebra.specs.Algebra.{zero_of, one_of}
use Rattle.dual.specs.declared.Dual.{Dual}
use Rattle.dual.specs.Rules.{dual_add, dual_mul, dual_algebra}
use Rattle.dual_runs.specs.Runs.{joined}
use Rattle.dual_runs.specs.contracts.sum as sum
use Rattle.dual_runs.specs.contracts.product as product

abbrev SumIs : List Dual → Dual → Type 0
SumIs run r = r ≡ joined dual_add (zero_of dual_algebra) run

abbrev ProductIs : List Dual → Dual → Type 0
ProductIs run r = r ≡ joined dual_mul (one_of dual_algebra) run

module _ {M : Type 1} {𝓤 : Ura M} (𝓛 : Logic 𝓤) (mem : Memory → SProp 𝓤) (run : Routine → Fun 𝓤) (κs : Lfts 1) where
  sum_says : (a : Args sum.signature κs) (r : Dual) (s : AtExit sum.ended κs) → (sum.clauses 𝓛 mem run κs a).ensures tt r s ≡ fact 𝓤 (SumIs a.0.now r)
  sum_says a r s = refl

  product_says : (a : Args product.signature κs) (r : Dual) (s : AtExit product.ended κs) → (product.clauses 𝓛 mem run κs a).ensures tt r s ≡ fact 𝓤 (ProductIs a.0.now r)
  product_says a r s = refl

pub sum_only : (run : List Dual) (x y : Dual) → SumIs run x → SumIs run y → x ≡ y
sum_only run x y p q = p ∙ sym q

pub product_only : (run : List Dual) (x y : Dual) → ProductIs run x → ProductIs run y → x ≡ y
product_only run x y p q = p ∙ sym q
