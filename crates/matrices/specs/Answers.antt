-- Document 01's reading of the answers. Definitions only.
use Rattle.std.specs.Prelude.{ℕ, Result, Ok, Err}
use Rattle.refusals.specs.Number as refusal
use Rattle.refusals.specs.Refused.{number}
use Rattle.refusals.specs.declared.Refusal.{Refusal}
use Rattle.algebra.specs.Outcome.{Outcome, Placed, given, refused_at, outcome, outcome_of, place_of}
use Rattle.matrices.specs.declared.LuRefusal.{LuRefusal}
use Rattle.matrices.specs.declared.LuRefusal.TheVariants as lu

-- LU: done (0) with the swap count, or the number that it is refused by with the column beside it, 0 unless the number is 6
abbrev pub lu_placed : Result ℕ LuRefusal → Placed ℕ
lu_placed (Ok swaps) = given swaps
lu_placed (Err (lu.Refused e)) = refused_at (number e) 0
lu_placed (Err (lu.Singular column)) = refused_at refusal.singular column

-- the swap count, or the number
abbrev pub lu_outcome : Result ℕ LuRefusal → Outcome ℕ
lu_outcome answer = outcome_of (lu_placed answer)

-- the column
abbrev pub lu_column : Result ℕ LuRefusal → ℕ
lu_column answer = place_of (lu_placed answer)

-- solve and inverse: done (0), or the number that it is refused by
abbrev pub solve_outcome : Result (Unit {0}) Refusal → Outcome (Unit {0})
solve_outcome answer = outcome answer
