-- What a program that replays matrices has room for. Definitions only.
use Rattle.std.specs.Prelude.{ℕ, ◌*◌}
use Rattle.refusals.specs.Largest as largest

-- the floats of the widest record
abbrev pub widest : ℕ
widest = largest.width

-- those of the largest row, and of the largest matrix
abbrev pub most_in_row : ℕ
most_in_row = largest.n * widest

abbrev pub most_floats : ℕ
most_floats = largest.n * largest.n * widest
