-- The entries, then the newline.
use Rattle.texts.proofs.Page.{puts_then}
use Rattle.dualrun_text.specs.Lines.{order_line}
use Rattle.dualrun_text.proofs.write.order.Goals as goal

pub returns : goal.returns
unfolding order_line
returns c = puts_then _ _ c.entries.ensures c.byte.ensures
