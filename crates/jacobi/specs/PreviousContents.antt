-- What "what a result buffer held before has no effect" says of two calls of Jacobi whose inputs are equal and whose result buffers are of equal lengths. Definitions only.
use Rattle.std.specs.Prelude.{◌≡◌}
use Rattle.jacobi.specs.Entry.{JacobiLeft}
use Rattle.jacobi.specs.SameReals.{Finished}

-- the same answer, and where they are done both buffers the same, whole
pub record EqualJacobi (x y : JacobiLeft) : Type 0 where
  pub answer : x.answer ≡ y.answer
  pub written : Finished x.answer → x ≡ y
