-- The loops keep: the records of the rows above r, and c of row r, stand, and zeros after them (PlacedUpTo).
use Rattle.std.proofs.Common.{rules}
use Rattle.market_reader.proofs.Placing.{placed_more, placed_all}
use Rattle.market_reader.proofs.places.fill.Goals as goal

pub loop-c-preserved : goal.loop-c-preserved
loop-c-preserved c = search (rules, placed_more)

pub returns : goal.returns
returns c = search (rules, placed_all)
