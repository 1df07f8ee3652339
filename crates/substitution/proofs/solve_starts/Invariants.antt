-- The loop keeps: the elements passed hold their starts (StartsWritten).
use Rattle.matrices.proofs.StartsWritten.{Starting, start_of}
use Rattle.substitution.proofs.solve_starts.Given as goal

abbrev pub invariant-loop-k : goal.invariant-loop-k
invariant-loop-k g l = Starting g.met.R.Record.laws (start_of g.met.R.Record.laws l.order l.b) l.initial.x l.x l.k
