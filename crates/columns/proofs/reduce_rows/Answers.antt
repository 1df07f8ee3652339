-- The loop keeps: the rows left to reduce give the whole (Turns).
use borrow.Author.Rules.{rules}
use Rattle.matrices.proofs.Places.{row_place_kept}
use Rattle.matrices.proofs.Turns.{run_turn, run_end}
use Rattle.matrices.proofs.RowsReduced.{reducing}
use Rattle.columns.proofs.reduce_rows.Goals as goal

pub loop-j-init : goal.loop-j-init
loop-j-init g c = reducing g.met.R.Record.laws _ _ _

pub loop-j-preserved : goal.loop-j-preserved
loop-j-preserved g c = search (rules, run_turn g.met.R.Record.laws)

pub returns : goal.returns
returns g c = search (rules, run_end g.met.R.Record.laws)
