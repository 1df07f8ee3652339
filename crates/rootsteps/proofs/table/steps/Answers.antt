-- The start, then four parts, one after the other. Assumes nothing.
use Rattle.rootsteps.proofs.Scaling.{scales_by}
use Rattle.rootsteps.proofs.Lines.{table_parts}
use Rattle.rootsteps.proofs.table.steps.Goals as goal

pub leading_bit-requires : goal.leading_bit-requires
leading_bit-requires c = scales_by _ _ c.requires _ c.scale-scaled.ensures.0

pub rows-last-requires : goal.rows-last-requires
rows-last-requires c = scales_by _ _ c.requires _ c.scale-scaled.ensures.0

pub returns : goal.returns
returns c =
    table_parts _ _ _ _ _ _ _ _ _ _ _ c.scale-scaled.ensures c.leading_bit.ensures c.rows-last.ensures.last c.leading_row.ensures c.rows-last.ensures.put c.sum_line.ensures c.nearest_line.ensures
