-- The three parts of a number; a float that is none has no line.
use Rattle.market_writer.proofs.Pieces.{line_none, line_some}
use Rattle.market_writer.proofs.lines.line.Goals as goal

pub returns-in_default : goal.returns-in_default
returns-in_default c = line_none _ c.in_default.ensures

pub returns : goal.returns
returns c = line_some _ _ c.in-Some.ensures c.minus.ensures c.number.ensures c.byte.ensures
