-- A value is one of the n that the vector holds.
use borrow.Author.Rules.{rules}
use Rattle.rotations.proofs.Held.{value_held}
use Rattle.rotations.proofs.work.Work.value.Goals as goal

pub read-requires : goal.read-requires
read-requires c = search (rules, value_held)
