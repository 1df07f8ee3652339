-- With a minus or without.
use Rattle.market_reader.proofs.EntryLines.{entry_minus, entry_plain}
use Rattle.market_reader.proofs.entries.entry.Goals as goal

pub returns-in-Some : goal.returns-in-Some
returns-in-Some c = entry_minus _ _ _ c.magnitude_line.ensures c.in-Some.ensures.cases.0 c.in-Some.ensures.cases.1

pub returns-in-None : goal.returns-in-None
returns-in-None c = entry_plain _ _ c.magnitude_line-in-None.ensures c.in-None.ensures.cases
