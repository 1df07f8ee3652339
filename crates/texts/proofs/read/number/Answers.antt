-- The scan looks one digit further than is allowed: none, too many, or a number.
use Rattle.std.proofs.Common.{rules}
use Rattle.texts.proofs.Numbers.{number_none, number_long, number_is}
use Rattle.texts.proofs.read.number.Goals as goal

pub returns-then-digits-eq0 : goal.returns-then-digits-eq0
returns-then-digits-eq0 c = search (rules, number_none)

pub returns-then-most-digits : goal.returns-then-most-digits
returns-then-most-digits c = search (rules, number_long)

pub returns : goal.returns
returns c = search (rules, number_is)
