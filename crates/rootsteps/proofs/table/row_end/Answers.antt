-- Two cells, then the end of the line. Assumes nothing.
use Rattle.texts.proofs.Page.{puts_then}
use Rattle.rootsteps.specs.Table.{row_end}
use Rattle.rootsteps.proofs.table.row_end.Goals as goal

pub returns : goal.returns
unfolding row_end
returns c = puts_then _ _ (puts_then _ _ c.labelled.ensures c.labelled-2.ensures) c.bytes.ensures
