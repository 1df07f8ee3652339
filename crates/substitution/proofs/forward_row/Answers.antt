-- The element is made in hand and stored once; the definition stores it at each product, to the same end (Substitution).
use borrow.Author.Rules.{rules}
use Rattle.matrices.proofs.Held.{strided_held}
use Rattle.matrices.proofs.Substitution.{forwarded}
use Rattle.substitution.proofs.forward_row.Goals as goal

pub returns : goal.returns
returns g c = search (rules, forwarded g.met.R.Record.laws)

pub read-requires : goal.read-requires
read-requires g c = search (rules, strided_held g.met.R.Record.laws)

pub write-requires : goal.write-requires
write-requires g c = search (rules, strided_held g.met.R.Record.laws)
