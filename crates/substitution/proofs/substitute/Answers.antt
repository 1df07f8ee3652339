-- Forward, then back, as in the definition.
use borrow.Author.Rules.{rules}
use Rattle.matrices.proofs.Places.{strided_keep}
use Rattle.matrices.proofs.Substitution.{substituted}
use Rattle.substitution.proofs.substitute.Goals as goal

pub returns : goal.returns
returns g c = search (rules, substituted g.met.R.Record.laws)
