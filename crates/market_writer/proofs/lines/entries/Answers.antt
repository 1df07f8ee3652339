-- The loops keep: the lines of the columns before c, and of r entries of column c, are written.
use Rattle.market_writer.proofs.Pieces.{lines_none, line_more}
use Rattle.market_writer.proofs.lines.entries.Goals as goal

pub loop-c-init : goal.loop-c-init
loop-c-init c = lines_none _ _ _

pub loop-r-preserved : goal.loop-r-preserved
loop-r-preserved c = line_more _ _ _ _ _ _ c.loop-r.invariant c.entry.ensures c.line.ensures
