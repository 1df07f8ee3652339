-- What a call leaves, as it crosses to C: the documents' number first, then what the lent places and buffers hold. Definitions only.
use Rattle.std.specs.Prelude.{ℕ, cond, List, eqb, Float}
use Rattle.refusals.specs.Number as refusal
use Rattle.algebra.specs.Outcome.{Outcome, value, refused, number_of}
use Rattle.dual.specs.declared.Dual.{Dual}
use Rattle.hyperdual.specs.declared.HyperDual.{HyperDual}
use Rattle.matrices.specs.Entries.{LuLeft, SolveLeft}
use Rattle.jacobi.specs.Entry.{JacobiLeft}
use Rattle.market.specs.Answers.{Left}

-- a count: written where the call is done, else as it was
abbrev pub count_of : ℕ → Outcome ℕ → ℕ
count_of before (value count) = count
count_of before (refused number) = before

-- the swap count where LU is done, at 6 the column, else as it was
abbrev pub swap_count_or_column : ℕ → Outcome ℕ → ℕ → ℕ
swap_count_or_column before (value swaps) column = swaps
swap_count_or_column before (refused number) column = cond (eqb number refusal.singular) column before

-- LU: the number, the swap count or the column, the factors, the order
abbrev pub lu_numbered : ℕ → LuLeft → ℕ × (ℕ × (List Float × List ℕ))
lu_numbered before l = (number_of l.answer, (swap_count_or_column before l.answer l.column, (l.factors, l.order)))

-- solve and inverse: the number, the result
abbrev pub solve_numbered : SolveLeft → ℕ × List Float
solve_numbered l = (number_of l.answer, l.result)

-- the determinant: the number, then its parts, as they were where it is refused
abbrev pub determinant_numbered : Float → Float → Outcome Dual → ℕ × (Float × Float)
determinant_numbered re eps (value x) = (0, (x.re, x.eps))
determinant_numbered re eps (refused number) = (number, (re, eps))

abbrev pub hyper_dual_determinant_numbered : Float → Float → Float → Float → Outcome HyperDual → ℕ × (Float × (Float × (Float × Float)))
hyper_dual_determinant_numbered re eps1 eps2 eps1eps2 (value x) = (0, (x.re, (x.eps1, (x.eps2, x.eps1eps2))))
hyper_dual_determinant_numbered re eps1 eps2 eps1eps2 (refused number) = (number, (re, (eps1, (eps2, eps1eps2))))

-- Jacobi: the number, the sweeps, the values, the vectors
abbrev pub jacobi_numbered : ℕ → JacobiLeft → ℕ × (ℕ × (List Float × List Float))
jacobi_numbered before l = (number_of l.answer, (count_of before l.answer, (l.values, l.vectors)))

-- Matrix Market: the number, the size or the length, and what was lent to be written
abbrev pub size_numbered : ℕ → Outcome ℕ → ℕ × ℕ
size_numbered before o = (number_of o, count_of before o)

abbrev pub left_numbered : {A : Type 0} → ℕ → Left A → ℕ × (ℕ × List A)
left_numbered before l = (number_of l.answer, (count_of before l.answer, l.buffer))
