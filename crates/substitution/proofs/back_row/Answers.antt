-- The element is made in hand and stored once; the definition stores it at each product, to the same end (Substitution).
use borrow.Author.Rules.{rules}
use Rattle.matrices.proofs.Held.{square_held, strided_held}
use Rattle.matrices.proofs.Substitution.{backed}
use Rattle.substitution.proofs.back_row.Goals as goal

pub returns : goal.returns
returns g c = search (rules, backed g.met.R.Record.laws)

pub read-requires : goal.read-requires
read-requires g c = search (rules, strided_held g.met.R.Record.laws)

pub read-requires-2 : goal.read-requires-2
read-requires-2 g c = search (rules, square_held g.met.R.Record.laws)

pub write-requires : goal.write-requires
write-requires g c = search (rules, strided_held g.met.R.Record.laws)
