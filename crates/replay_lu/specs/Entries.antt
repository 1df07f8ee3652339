-- How many numbers a case of each entry begins with. Definitions only.
use Rattle.std.specs.Prelude.{ℕ}
use Rattle.replay_lu.specs.declared.reading.Entry.{Entry}
use Rattle.replay_lu.specs.declared.reading.Entry.TheVariants.{Lu, Solve, Determinant, Inverse}

-- LU's: the size, the number, the count or the column; the determinant's: the size, the swap count; else the size
abbrev pub numbers_of : Entry → ℕ
numbers_of Lu = 3
numbers_of Determinant = 2
numbers_of Solve = 1
numbers_of Inverse = 1
