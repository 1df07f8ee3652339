-- What "what a result buffer held before has no effect" says of two calls of an entry whose inputs are equal and whose result buffers are of equal lengths. Definitions only.
use Rattle.std.specs.Prelude.{◌≡◌}
use Rattle.matrices.specs.Entries.{LuLeft, SolveLeft}
use Rattle.matrices.specs.SameReals.{Wrote}

-- two calls of LU: the same answer and column, and where they wrote both buffers the same, whole
pub record EqualLu (x y : LuLeft) : Type 0 where
  pub answer : x.answer ≡ y.answer
  pub column : x.column ≡ y.column
  pub written : Wrote x.answer → x ≡ y

-- two calls of solve or of inverse: the same answer, and where they wrote the buffer the same, whole
pub record EqualSolve (x y : SolveLeft) : Type 0 where
  pub answer : x.answer ≡ y.answer
  pub written : Wrote x.answer → x ≡ y
