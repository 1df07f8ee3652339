-- The word of the float, in its digits.
use Rattle.std.proofs.Common.{ap}
use Rattle.texts.specs.Numbers.{hex_text}
use Rattle.texts.proofs.Page.{puts_as}
use Rattle.dualrun_text.specs.Lines.{word_text}
use Rattle.dualrun_text.proofs.write.word.Goals as goal

pub returns : goal.returns
unfolding word_text
returns c = puts_as c.word.ensures (ap hex_text c.word_of_float.ensures)
