-- The loop keeps: the elements left to make, from the first on, give the whole (Turns).
use Rattle.matrices.proofs.Substitution.{Forwarding}
use Rattle.substitution.proofs.run_forward.Given as goal

abbrev pub invariant-loop-i : goal.invariant-loop-i
invariant-loop-i g l = Forwarding g.met.R.Record.laws l.a.n l.a.floats.now l.initial.x l.place.stride l.place.base l.x l.i
