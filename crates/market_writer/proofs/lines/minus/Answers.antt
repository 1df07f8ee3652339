-- A minus, or nothing.
use Rattle.std.proofs.Common.{sym, ap}
use Rattle.texts.proofs.Page.{puts_none, puts_as}
use Rattle.market.specs.Format.{sign}
use Rattle.market_writer.proofs.lines.minus.Goals as goal

pub returns-else-x : goal.returns-else-x
returns-else-x c = puts_as puts_none (ap sign (sym c.if-x.false))
