-- A vector of n `Dual` records as flat floats. Definitions only.
use Rattle.std.specs.Prelude.{ℕ, ◌*◌, ◌≡◌, List, length, Float}

-- flat floats that hold n records
pub record Vector (n : ℕ) (l : List Float) : Type 0 where
  pub full : length l ≡ n * 2
