-- The loops keep: the records of the rows above r, and c of row r, stand, and zeros after them (PlacedUpTo).
use Rattle.std.proofs.Common.{◌+◌, ◌*◌}
use Rattle.market_reader.specs.Kinds.{is_symmetric}
use Rattle.market_reader.specs.Told.{PlacedUpTo}
use Rattle.market_reader.proofs.places.fill.Given as goal

abbrev pub invariant-loop-r : goal.invariant-loop-r
invariant-loop-r l = PlacedUpTo l.width (is_symmetric l.shape.symmetry) l.shape.n l.numbers (l.r * l.shape.n) l.out

abbrev pub invariant-loop-c : goal.invariant-loop-c
invariant-loop-c l = PlacedUpTo l.width (is_symmetric l.shape.symmetry) l.shape.n l.numbers (l.r * l.shape.n + l.c) l.out
