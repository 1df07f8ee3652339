-- The loop keeps: the entries so far stand in the lent numbers, and the others are still to be read (Reading).
use Rattle.std.proofs.Common.{length}
use Rattle.market_reader.proofs.EntryLines.{Reading}
use Rattle.market_reader.proofs.entries.all.Given as goal

abbrev pub invariant-loop-x : goal.invariant-loop-x
invariant-loop-x l = Reading l.text (length l.initial.numbers) l.numbers l.rest l.x-index
