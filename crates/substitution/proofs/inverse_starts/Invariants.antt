-- The loop keeps: the ones left to write give all starts (StartsWritten).
use Rattle.matrices.proofs.StartsWritten.{Ones}
use Rattle.substitution.proofs.inverse_starts.Given as goal

abbrev pub invariant-loop-i : goal.invariant-loop-i
invariant-loop-i g l = Ones g.met.R.Record.laws l.n l.order l.initial.x l.x l.i
