-- The word, then the number. Assumes nothing.
use Rattle.texts.proofs.Page.{puts_then}
use Rattle.rootsteps.specs.Table.{labelled}
use Rattle.rootsteps.proofs.table.labelled.Goals as goal

pub returns : goal.returns
unfolding labelled
returns c = puts_then _ _ c.bytes.ensures c.number.ensures
