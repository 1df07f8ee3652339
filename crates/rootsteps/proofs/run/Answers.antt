-- A new page, and the text on it. Assumes nothing.
use Rattle.std.proofs.Common.{rules}
use Rattle.texts.proofs.Page.{puts_all, counted}
use Rattle.rootsteps.proofs.run.Goals as goal

pub returns : goal.returns
returns c = record {
  result_after = puts_all _ c.new-page.ensures.none c.answer.ensures (search rules);
  prefix_len = counted _ _ _ _ (puts_all _ c.new-page.ensures.none c.answer.ensures (search rules));
}
