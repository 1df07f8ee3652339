-- By the first test that the two numbers do not pass. Assumes nothing.
use borrow.Author.Rules.{rules}
use Rattle.rootsteps.proofs.Asking.{too_few, too_many, none, too_large_lem, good}
use Rattle.rootsteps.proofs.read.asked.Goals as goal

pub returns-then-bits-lt-FEWEST_BITS : goal.returns-then-bits-lt-FEWEST_BITS
returns-then-bits-lt-FEWEST_BITS c = search (rules, too_few)

pub returns-then-bits-gt-MOST_BITS : goal.returns-then-bits-gt-MOST_BITS
returns-then-bits-gt-MOST_BITS c = search (rules, too_many)

pub returns-then-number-eq0 : goal.returns-then-number-eq0
returns-then-number-eq0 c = search (rules, none)

pub returns-then-bits-number : goal.returns-then-bits-number
returns-then-bits-number c = search (rules, too_large_lem)

pub returns : goal.returns
returns c = search (rules, good)
