-- The loop keeps: the words passed are those of their places (Filling).
use borrow.Author.Rules.{rules}
use Rattle.floats.proofs.Fill.{filling_none, filling_more, filling_all}
use Rattle.replay_table.specs.Table.{record_of}
use Rattle.replay_table.proofs.record_of.Goals as goal

pub loop-i-init : goal.loop-i-init
loop-i-init c = filling_none _ _ _

-- the word stored is the one of its place
pub loop-i-preserved : goal.loop-i-preserved
loop-i-preserved c = search (rules, filling_more)

-- past the last place the list is whole
pub returns : goal.returns
unfolding record_of
returns c = filling_all _ _ _ _ _ c.loop-i.invariant (search rules)
