-- The loop keeps: the entries so far stand in the lent numbers, and the others are still to be read (Reading).
use Rattle.std.proofs.Common.{rules}
use Rattle.std.proofs.lemmas.Result.{err_from_is_err_and}
use Rattle.market_reader.proofs.EntryLines.{reading_more, reading_faults, reading_left, reading_all}
use Rattle.market_reader.proofs.entries.all.Goals as goal

pub returns-in_err-e : goal.returns-in_err-e
returns-in_err-e c = let p = err_from_is_err_and c.from_residual.result c.from_residual.ensures.1 in rw (p.1, p.2) (search (rules, reading_faults))

pub loop-x-preserved : goal.loop-x-preserved
loop-x-preserved c = search (rules, reading_more)

pub returns-then-not-is_empty : goal.returns-then-not-is_empty
returns-then-not-is_empty c = search (rules, reading_left)

pub returns : goal.returns
returns c = search (rules, reading_all)
