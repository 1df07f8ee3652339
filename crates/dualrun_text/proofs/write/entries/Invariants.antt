-- The loop keeps: the first i entries are written.
use Rattle.texts.specs.Page.{Puts}
use Rattle.dualrun_text.specs.Lines.{entries}
use Rattle.dualrun_text.proofs.write.entries.Given as goal

abbrev pub invariant-loop-i : goal.invariant-loop-i
invariant-loop-i l = Puts l.initial.page l.page (entries l.order l.i)
