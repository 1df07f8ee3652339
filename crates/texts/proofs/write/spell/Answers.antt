-- The loop keeps: the digits of the rest, and after them those that are put, are the text (Spelling).
use borrow.Author.Rules.{rules}
use Rattle.texts.proofs.Spelling.{spelling_none, spelling_room, spelling_more, spelling_ends}
use Rattle.texts.proofs.write.spell.Goals as goal

pub loop-rest-init : goal.loop-rest-init
loop-rest-init c = search (rules, spelling_none)

pub loop-rest-preserved : goal.loop-rest-preserved
loop-rest-preserved c = search (rules, spelling_more)

pub returns : goal.returns
returns c = search (rules, spelling_ends)
