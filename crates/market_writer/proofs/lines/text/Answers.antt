-- Header, size line, entries, on a new page.
use Rattle.std.proofs.Common.{rules}
use Rattle.texts.proofs.Page.{puts_then, puts_all}
use Rattle.market.specs.Text.{text_of}
use Rattle.market_writer.proofs.lines.text.Goals as goal

pub returns : goal.returns
unfolding text_of
returns c = puts_all _ c.new-page.ensures.none (puts_then _ _ (puts_then _ _ c.bytes.ensures c.size_line.ensures) c.entries.ensures) (search rules)
