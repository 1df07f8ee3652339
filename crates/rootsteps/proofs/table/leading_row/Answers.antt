-- Four parts, one after the other. Assumes nothing.
use Rattle.texts.proofs.Page.{puts_then}
use Rattle.rootsteps.specs.Table.{leading_row}
use Rattle.rootsteps.proofs.table.leading_row.Goals as goal

pub returns : goal.returns
unfolding leading_row
returns c = puts_then _ _ (puts_then _ _ (puts_then _ _ c.bytes.ensures c.labelled.ensures) c.bytes-2.ensures) c.row_end.ensures
