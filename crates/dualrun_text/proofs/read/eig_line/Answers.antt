-- A number, then a space, then the rest of the line, which begins early enough.
use Rattle.std.proofs.Common.{rules}
use Rattle.dualrun_text.proofs.FirstLine.{then_not, then_other, then_is, place_early}
use Rattle.dualrun_text.proofs.read.eig_line.Goals as goal

pub returns-in_err-n : goal.returns-in_err-n
returns-in_err-n c = search (rules, then_not)

pub returns-then-byte_at-ne32 : goal.returns-then-byte_at-ne32
returns-then-byte_at-ne32 c = search (rules, then_other)

pub limit_line-requires : goal.limit_line-requires
limit_line-requires c = search (rules, place_early)

pub returns : goal.returns
returns c = search (rules, then_is)
