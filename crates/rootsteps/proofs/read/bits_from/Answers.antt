-- A number, then the end of the text, then the range of both. Assumes nothing.
use Rattle.std.proofs.Common.{rules}
use Rattle.rootsteps.proofs.Asking.{bits_not, end_early, bits_longer, bits_read}
use Rattle.rootsteps.proofs.read.bits_from.Goals as goal

pub returns-in_err-bits : goal.returns-in_err-bits
returns-in_err-bits c = search (rules, bits_not)

pub ends-requires : goal.ends-requires
ends-requires c = search (rules, end_early)

pub returns-then-not-ends : goal.returns-then-not-ends
returns-then-not-ends c = search (rules, bits_longer)

pub returns : goal.returns
returns c = search (rules, bits_read)
