-- The number, then the newline.
use Rattle.std.proofs.Common.{ap}
use Rattle.texts.specs.Numbers.{decimal_text}
use Rattle.texts.proofs.Page.{puts_then, puts_as}
use Rattle.dualrun_text.specs.Lines.{refusal_line}
use Rattle.dualrun_text.proofs.write.refusal.Goals as goal

pub returns : goal.returns
unfolding refusal_line
returns c = puts_then _ _ (puts_as c.number-2.ensures (ap decimal_text c.number.ensures)) c.byte.ensures
