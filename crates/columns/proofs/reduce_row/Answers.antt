-- The multiplier is stored before the row is run, as in the definition (RowsReduced).
use borrow.Author.Rules.{rules}
use Rattle.matrices.proofs.Held.{row_held}
use Rattle.matrices.proofs.RowsReduced.{multiplier_stored, reduced}
use Rattle.columns.proofs.reduce_row.Goals as goal

-- both records lie in their rows
pub read-requires : goal.read-requires
read-requires g c = search (rules, row_held g.met.R.Record.laws)

pub read-requires-2 : goal.read-requires-2
read-requires-2 g c = search (rules, row_held g.met.R.Record.laws)

pub write-requires : goal.write-requires
write-requires g c = search (rules, row_held g.met.R.Record.laws)

pub subtract_row-requires-clause-i_value : goal.subtract_row-requires-clause-i_value
subtract_row-requires-clause-i_value g c = search (rules, multiplier_stored g.met.R.Record.laws)

pub returns : goal.returns
returns g c = search (rules, reduced g.met.R.Record.laws)
