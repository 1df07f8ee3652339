-- A new page, and the text on it.
use Rattle.std.proofs.Common.{rules}
use Rattle.texts.proofs.Page.{puts_all, counted}
use Rattle.dualrun_text.proofs.run.Goals as goal

pub returns : goal.returns
returns c = record {
  output = puts_all _ c.new-page.ensures.none c.answer.ensures (search rules);
  counts = counted _ _ _ _ (puts_all _ c.new-page.ensures.none c.answer.ensures (search rules));
}
