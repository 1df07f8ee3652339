-- A number, then the newline: each answer by the reader of numbers and the byte behind.
use Rattle.std.proofs.Common.{rules}
use Rattle.dualrun_text.proofs.FirstLine.{then_not, then_other, then_is}
use Rattle.dualrun_text.proofs.read.limit_line.Goals as goal

pub returns-in_err-limit : goal.returns-in_err-limit
returns-in_err-limit c = search (rules, then_not)

pub returns-then-byte_at-ne10 : goal.returns-then-byte_at-ne10
returns-then-byte_at-ne10 c = search (rules, then_other)

pub returns : goal.returns
returns c = search (rules, then_is)
