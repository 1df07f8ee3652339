-- As many bytes as the longest line has, or a newline among fewer.
use Rattle.std.proofs.Common.{◌∙◌, le-leb}
use Rattle.dualrun_text.proofs.LineCame.{has_many, has_by}
use Rattle.dualrun_text.proofs.read.has_line.Goals as goal

pub returns-then-text-ge-LONGEST_LINE : goal.returns-then-text-ge-LONGEST_LINE
returns-then-text-ge-LONGEST_LINE c = le-leb _ _ c.if-text-ge-LONGEST_LINE.true ∙ has_many _ c.if-text-ge-LONGEST_LINE.true

pub returns-else-text-ge-LONGEST_LINE : goal.returns-else-text-ge-LONGEST_LINE
returns-else-text-ge-LONGEST_LINE c = has_by c.args.text.now c.if-text-ge-LONGEST_LINE.false c.contains.result c.contains.ensures.cases
