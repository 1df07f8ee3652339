-- Each way out is a case of the definition's test of the count.
use borrow.Author.Rules.{rules}
use Rattle.matrices.proofs.DiagonalWalk.{sign_odd, sign_even}
use Rattle.columns.proofs.signed.Goals as goal

pub returns-then-swaps-eq1 : goal.returns-then-swaps-eq1
returns-then-swaps-eq1 g c = search (rules, sign_odd g.met.R.Record.laws)

pub returns-else-swaps-eq1 : goal.returns-else-swaps-eq1
returns-else-swaps-eq1 g c = search (rules, sign_even g.met.R.Record.laws)
