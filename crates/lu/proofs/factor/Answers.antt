-- A copy, the order counted up, the columns: done, it is the end of the definition that the run came to (ColumnsRun).
use borrow.Author.Rules.{rules}
use Rattle.matrices.proofs.ColumnsRun.{factor_done}
use Rattle.lu.proofs.factor.Goals as goal

pub returns-in-Ok : goal.returns-in-Ok
returns-in-Ok g c = search (rules, factor_done g.met.R.Record.laws)
