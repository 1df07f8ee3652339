-- The loop keeps: the columns left to run give the inverse (StartsWritten).
use Rattle.matrices.proofs.StartsWritten.{Inverting}
use Rattle.substitution.proofs.inverse_run.Given as goal

abbrev pub invariant-loop-j : goal.invariant-loop-j
invariant-loop-j g l = Inverting g.met.R.Record.laws l.n l.a l.order l.initial.x l.x l.j
