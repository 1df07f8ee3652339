-- Nothing more, more than one byte, or one byte. Assumes nothing.
use borrow.Author.Rules.{rules}
use Rattle.rootsteps.proofs.Asking.{ends_here, ends_later, ends_newline}
use Rattle.rootsteps.proofs.read.ends.Goals as goal

pub returns-then-text-p : goal.returns-then-text-p
returns-then-text-p c = search (rules, ends_here)

pub returns-then-text-p-2 : goal.returns-then-text-p-2
returns-then-text-p-2 c = search (rules, ends_later)

pub returns : goal.returns
returns c = search (rules, ends_newline)
