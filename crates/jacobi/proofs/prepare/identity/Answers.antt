-- Floats that are cleared are records of zero, from which the ones are put.
use borrow.Author.Rules.{rules}
use Rattle.jacobi.proofs.Started.{identity_by}
use Rattle.dual.specs.Laws.{dual_laws}
use Rattle.jacobi.proofs.prepare.identity.Goals as goal

pub returns : goal.returns
returns c = search (rules, identity_by dual_laws)
