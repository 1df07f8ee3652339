-- What the laws of matrices ask of a record type, by its operations and its layout in flat floats. Each record's crate has one instance. Definitions only.
use Prim.Native.Nat.{◌≤◌}
use Rattle.refusals.specs.Largest as largest
use Rattle.algebra.specs.Algebra.{Algebra, RealParts}
use Rattle.algebra.specs.Flat.{Layout, Lawful, Agrees}

pub record Laws {R : Type 0} (A : Algebra R) (L : Layout R) : Type 0 where
  pub lawful : Lawful L
  pub agrees : Agrees A L
  pub real : RealParts A
  pub narrow : L.width ≤ largest.width
