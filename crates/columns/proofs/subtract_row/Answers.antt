-- The loop keeps: the multiplier as it is, and what is left to run gives the whole row (RowsReduced).
use borrow.Author.Rules.{rules}
use Rattle.matrices.proofs.Held.{row_held}
use Rattle.matrices.proofs.RowsReduced.{subtract_start, subtract_turn, subtract_end}
use Rattle.columns.proofs.subtract_row.Goals as goal

-- both records lie in their rows
pub subtract_record-requires : goal.subtract_record-requires
subtract_record-requires g c = search (rules, row_held g.met.R.Record.laws)

pub loop-k-preserved : goal.loop-k-preserved
loop-k-preserved g c = search (rules, subtract_turn g.met.R.Record.laws)

pub returns : goal.returns
returns g c = search (rules, subtract_end g.met.R.Record.laws)
