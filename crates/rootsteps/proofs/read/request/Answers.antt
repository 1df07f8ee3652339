-- A number, then a space, then the bits, which begin early enough. Assumes nothing.
use Rattle.std.proofs.Common.{rules}
use Rattle.rootsteps.proofs.Asking.{number_not, bits_early, number_alone, number_read}
use Rattle.rootsteps.proofs.read.request.Goals as goal

pub returns-in_err-number : goal.returns-in_err-number
returns-in_err-number c = search (rules, number_not)

pub returns-then-byte_at-ne32 : goal.returns-then-byte_at-ne32
returns-then-byte_at-ne32 c = search (rules, number_alone)

pub bits_from-requires : goal.bits_from-requires
bits_from-requires c = search (rules, bits_early)

pub returns : goal.returns
returns c = search (rules, number_read)
