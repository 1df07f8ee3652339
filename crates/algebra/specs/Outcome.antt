-- What a request over a record gives: document 01's "a record of the asked type or a refusal number". Definitions only.
use Rattle.std.specs.Prelude.{ℕ, Result, Ok, Err}
use Rattle.refusals.specs.Refused.{number}
use Rattle.refusals.specs.declared.Refusal.{Refusal}

-- a record, or a refusal by its number
pub data Outcome (R : Type 0) : Type 0 where
  value : R → Outcome R
  refused : ℕ → Outcome R

-- the code's answer as an outcome: the record, or the number that it is refused by
abbrev pub outcome : {R : Type 0} → Result R Refusal → Outcome R
outcome (Ok x) = value x
outcome (Err e) = refused (number e)

-- document 01's number: 0 is done
abbrev pub number_of : {R : Type 0} → Outcome R → ℕ
number_of (value x) = 0
number_of (refused n) = n

-- the outcome seen through a map of records
abbrev pub map_outcome : {R S : Type 0} → (R → S) → Outcome R → Outcome S
map_outcome h (value x) = value (h x)
map_outcome h (refused n) = refused n

-- a record, or a refusal by its number with the place beside it: LU's column, the byte of a text
pub data Placed (R : Type 0) : Type 0 where
  given : R → Placed R
  refused_at : ℕ → ℕ → Placed R

-- the outcome without the place
abbrev pub outcome_of : {R : Type 0} → Placed R → Outcome R
outcome_of (given x) = value x
outcome_of (refused_at number place) = refused number

-- the place, 0 where nothing is refused
abbrev pub place_of : {R : Type 0} → Placed R → ℕ
place_of (given x) = 0
place_of (refused_at number place) = place
