-- All starts written first give what the definition's, row by row, give (StartsWritten).
use borrow.Author.Rules.{rules}
use Rattle.matrices.proofs.Places.{whole_kept}
use Rattle.matrices.proofs.StartsWritten.{solved}
use Rattle.substitution.proofs.solve_run.Goals as goal

pub returns : goal.returns
returns g c = search (rules, solved g.met.R.Record.laws)
