-- An answer is known by its outcome, and its number is the outcome's: a refusal is known by its number. Assumes nothing.
use mathlib.Core.Path.{◌≡◌, refl, ap}
use Rattle.std.specs.Prelude.{Result, Ok, Err}
use Rattle.refusals.specs.Refused.{answer_number}
use Rattle.refusals.specs.declared.Refusal.{Refusal}
use Rattle.refusals.proofs.Numbers.{number_one}
use Rattle.algebra.specs.Outcome.{number_of, outcome}

module _ {R : Type 0} where
  -- two answers of one outcome are one
  pub outcome_one : (x y : Result R Refusal) → outcome x ≡ outcome y → x ≡ y
  outcome_one (Ok x) (Ok y) e = cc
  outcome_one (Ok x) (Err m) e = cc
  outcome_one (Err m) (Ok y) e = cc
  outcome_one (Err m) (Err n) e = ap Err (number_one m n (ap number_of e))

  pub number_of-outcome : (x : Result R Refusal) → number_of (outcome x) ≡ answer_number x
  number_of-outcome (Ok x) = refl
  number_of-outcome (Err e) = refl
