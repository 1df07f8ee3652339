-- Each way out is one of the definition's three, with the pivot that was found (PivotBrought).
use borrow.Author.Rules.{rules}
use Rattle.matrices.proofs.PivotBrought.{pivot_later, pivot_entry, pivot_inside, brought_none, brought_stays, brought_moves}
use Rattle.matrices.proofs.rows.bring_pivot.Goals as goal

pub returns-then-pivot : goal.returns-then-pivot
returns-then-pivot c = search (rules, brought_none)

pub returns-then-pivot-i : goal.returns-then-pivot-i
returns-then-pivot-i c = search (rules, brought_stays)

pub exchange_rows-requires : goal.exchange_rows-requires
exchange_rows-requires c = search (rules, pivot_later, pivot_inside)

pub exchange-requires : goal.exchange-requires
exchange-requires c = search (rules, pivot_entry)

pub returns : goal.returns
returns c = search (rules, brought_moves)
