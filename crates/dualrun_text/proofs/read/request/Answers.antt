-- By the first word: `lu `, `eig `, or another.
use borrow.Author.Rules.{rules}
use Rattle.dualrun_text.proofs.FirstLine.{request_lu, request_eig, request_other}
use Rattle.dualrun_text.proofs.read.request.Goals as goal

pub returns-then-starts_with : goal.returns-then-starts_with
returns-then-starts_with c = search (rules, request_lu)

pub returns-then-starts_with-2 : goal.returns-then-starts_with-2
returns-then-starts_with-2 c = search (rules, request_eig)

pub returns : goal.returns
returns c = search (rules, request_other)
