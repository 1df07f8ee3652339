-- Five parts, one after the other; the last two cells are of what is found after the bit. Assumes nothing.
use Rattle.std.proofs.Common.{◌/◌, ap}
use Rattle.real.specs.declared.root.Found.{Found}
use Rattle.texts.proofs.Page.{puts_then, puts_as}
use Rattle.rootsteps.specs.Table.{row_end, row_of}
use Rattle.rootsteps.proofs.table.row.Goals as goal

pub returns : goal.returns
unfolding row_of
returns c =
    puts_then _ _ (puts_then _ _ (puts_then _ _ (puts_then _ _ c.labelled.ensures c.labelled-2.ensures) c.labelled-3.ensures) c.fits.ensures)
    (puts_as c.row_end.ensures (ap (λ (f : Found). row_end (f.twice / 2) f.rest) c.requires.next_value))
