-- The loop keeps: the digits of the rest, and after them those that are put, are the text (Spelling).
use Rattle.texts.proofs.Spelling.{Spelling}
use Rattle.texts.proofs.write.spell.Given as goal

abbrev pub invariant-loop-rest : goal.invariant-loop-rest
invariant-loop-rest l = Spelling l.n l.digits l.start l.rest

abbrev pub decreases-loop-rest : goal.decreases-loop-rest
decreases-loop-rest l = l.rest
