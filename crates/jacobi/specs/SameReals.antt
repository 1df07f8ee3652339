-- What demand 3 says of two calls of Jacobi, over any record in flat floats. Definitions only.
use Rattle.std.specs.Prelude.{ℕ, ◌+◌, ◌*◌, ◌≤◌, ◌<◌, ◌≡◌, List, length, get_or, Float}
use Rattle.real.specs.Operations as float
use Rattle.algebra.specs.Flat.{real_parts}
use Rattle.algebra.specs.Outcome.{Outcome, value, refused}
use Rattle.jacobi.specs.Entry.{JacobiLeft}

-- two matrices of n by n records of w floats, alike in the first k floats of each record on or above the diagonal
pub record SameAbove (w n k : ℕ) (a b : List Float) : Type 0 where
  pub size : length a ≡ length b
  pub parts : (r c i : ℕ) → r ≤ c → c < n → i < k → get_or a ((r * n + c) * w + i) float.zero ≡ get_or b ((r * n + c) * w + i) float.zero

-- the call is done
abbrev pub Finished : {R : Type 0} → Outcome R → Type 0
Finished (value x) = Unit {0}
Finished (refused number) = ⊥

-- what two calls leave: the same answer, and of what they write the same real parts
pub record SameJacobi (w : ℕ) (x y : JacobiLeft) : Type 0 where
  pub answer : x.answer ≡ y.answer
  pub values : Finished x.answer → real_parts w x.values ≡ real_parts w y.values
  pub vectors : Finished x.answer → real_parts w x.vectors ≡ real_parts w y.vectors
