-- Four parts, one after the other.
use Rattle.texts.proofs.Page.{puts_then}
use Rattle.dualrun_text.specs.Lines.{pair_line}
use Rattle.dualrun_text.proofs.write.pair.Goals as goal

pub returns : goal.returns
unfolding pair_line
returns c = puts_then _ _ (puts_then _ _ (puts_then _ _ c.number.ensures c.byte.ensures) c.number-2.ensures) c.byte-2.ensures
