-- Its four parts.
use Rattle.texts.proofs.Page.{puts_then}
use Rattle.market.specs.Text.{size_text}
use Rattle.market_writer.proofs.lines.size_line.Goals as goal

pub returns : goal.returns
unfolding size_text
returns c = puts_then _ _ (puts_then _ _ (puts_then _ _ c.number.ensures c.byte.ensures) c.number-2.ensures) c.byte-2.ensures
