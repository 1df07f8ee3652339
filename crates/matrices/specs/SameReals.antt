-- What demand 3 says of two calls of an entry: from inputs that agree but for the slopes, equal answers, columns, counts and orders, and equal real parts of what is written or handed back. Definitions only.
use Rattle.std.specs.Prelude.{ℕ, ◌≡◌, List, length, Float}
use Rattle.refusals.specs.Number as refusal
use Rattle.algebra.specs.Flat.{real_parts}
use Rattle.algebra.specs.Outcome.{Outcome, value, refused}
use Rattle.matrices.specs.Entries.{LuLeft, SolveLeft}

-- two lent runs of floats agree but for the slopes, at w floats a record
pub record Alike (w : ℕ) (l l' : List Float) : Type 0 where
  pub long : length l ≡ length l'
  pub real : real_parts w l ≡ real_parts w l'

-- the call wrote: it is done, or refused 6
abbrev pub Wrote : {R : Type 0} → Outcome R → Type 0
Wrote (value x) = Unit {0}
Wrote (refused number) = number ≡ refusal.singular

-- two calls of LU, at w floats a record
pub record SameLu (w : ℕ) (x y : LuLeft) : Type 0 where
  pub answer : x.answer ≡ y.answer
  pub column : x.column ≡ y.column
  pub order : Wrote x.answer → x.order ≡ y.order
  pub factors : Wrote x.answer → real_parts w x.factors ≡ real_parts w y.factors

-- two calls of solve or of inverse
pub record SameSolve (w : ℕ) (x y : SolveLeft) : Type 0 where
  pub answer : x.answer ≡ y.answer
  pub result : Wrote x.answer → real_parts w x.result ≡ real_parts w y.result
