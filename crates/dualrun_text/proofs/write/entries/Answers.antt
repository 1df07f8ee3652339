-- The loop keeps: the first i entries are written.
use Rattle.texts.proofs.Page.{puts_none, puts_then, puts_as}
use Rattle.dualrun_text.specs.Lines.{entries}
use Rattle.dualrun_text.proofs.Lines.{entries_more}
use Rattle.dualrun_text.proofs.write.entries.Goals as goal

pub loop-i-init : goal.loop-i-init
unfolding entries
loop-i-init c = puts_none

pub loop-i-preserved : goal.loop-i-preserved
loop-i-preserved c = puts_as (puts_then _ _ c.loop-i.invariant c.entry.ensures) (entries_more c.args.order.now c.loop-i.i)
