-- The loops keep: the lines of the columns before c, and of r entries of column c, are written.
use Rattle.std.proofs.Common.{◌+◌, ◌*◌}
use Rattle.texts.specs.Page.{Puts}
use Rattle.market.specs.Text.{lines_of}
use Rattle.market_writer.proofs.lines.entries.Given as goal

abbrev pub invariant-loop-c : goal.invariant-loop-c
invariant-loop-c l = Puts l.fn.page l.page (lines_of l.matrix.width l.matrix.n l.matrix.floats.now (l.c * l.matrix.n))

abbrev pub invariant-loop-r : goal.invariant-loop-r
invariant-loop-r l = Puts l.fn.page l.page (lines_of l.matrix.width l.matrix.n l.matrix.floats.now (l.c * l.matrix.n + l.r))
