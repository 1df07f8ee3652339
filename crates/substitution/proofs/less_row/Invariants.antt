-- The loop keeps: the products left to take give the whole row (Substitution).
use Rattle.matrices.proofs.Substitution.{Lessening}
use Rattle.substitution.proofs.less_row.Given as goal

abbrev pub invariant-loop-k : goal.invariant-loop-k
invariant-loop-k g l = Lessening g.met.R.Record.laws l.a.n l.a.floats.now l.x l.place.stride l.place.base l.i l.lo l.hi l.initial.r l.r l.k
