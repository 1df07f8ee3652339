-- Six parts, one after the other. Assumes nothing.
use Rattle.texts.proofs.Page.{puts_then}
use Rattle.rootsteps.specs.Table.{sum_line}
use Rattle.rootsteps.proofs.table.sum_line.Goals as goal

pub returns : goal.returns
unfolding sum_line
returns c =
    puts_then _ _ (puts_then _ _ (puts_then _ _ (puts_then _ _ (puts_then _ _ c.labelled.ensures c.labelled-2.ensures) c.labelled-3.ensures) c.labelled-4.ensures) c.labelled-5.ensures) c.byte.ensures
