-- Four parts, one after the other.
use Rattle.texts.proofs.Page.{puts_then}
use Rattle.dualrun_text.specs.Lines.{record_line}
use Rattle.dualrun_text.proofs.write.record.Goals as goal

pub returns : goal.returns
unfolding record_line
returns c = puts_then _ _ (puts_then _ _ (puts_then _ _ c.word.ensures c.byte.ensures) c.word-2.ensures) c.byte-2.ensures
