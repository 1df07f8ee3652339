-- The loop keeps: the rows left to look at, from the best so far, give the pivot (PivotSought).
use borrow.Author.Rules.{rules}
use Rattle.matrices.proofs.PivotSought.{seeking, seek_inside, seek_turn, seek_end}
use Rattle.matrices.proofs.rows.find_pivot.Goals as goal

pub loop-k-init : goal.loop-k-init
loop-k-init c = search (rules, seeking)

pub loop-k-preserved : goal.loop-k-preserved
loop-k-preserved c = search (rules, seek_turn)

pub returns : goal.returns
returns c = search (rules, seek_end)
