-- The nearest by its test, then three parts, one after the other. Assumes nothing.
use Rattle.std.proofs.Common.{◌≡◌, ◌/◌, ap}
use Rattle.texts.proofs.Page.{puts_then, puts_as}
use Rattle.rootsteps.specs.Words.{nearest_word}
use Rattle.rootsteps.specs.Table.{labelled, nearest_of, nearest_line}
use Rattle.rootsteps.proofs.Lines.{nearest_more, nearest_same}
use Rattle.rootsteps.proofs.table.nearest_line.Goals as goal
use Rattle.rootsteps.proofs.table.nearest_line.Goals.{then-root-last, else-root-last}

pub returns : goal.returns
unfolding nearest_line
returns c =
    let is : c.if-root-last.nearest ≡ nearest_of (c.args.last.twice / 2) c.args.last.rest = elim c.if-root-last.branch [ then-root-last w ↦ nearest_more _ _ _ w.if-root-last.true w.nearest-is | else-root-last w ↦ nearest_same _ _ _ w.if-root-last.false w.nearest-is ] in
    puts_then _ _ (puts_then _ _ (puts_as c.labelled.ensures (ap (labelled nearest_word) is)) c.labelled-2.ensures) c.byte.ensures
