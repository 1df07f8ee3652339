-- The loop keeps: the elements left to make, from the last back, give the whole (Turns).
use Prim.Native.Nat.{◌-◌}
use Rattle.matrices.proofs.Substitution.{Backing}
use Rattle.substitution.proofs.run_back.Given as goal

abbrev pub invariant-loop-i : goal.invariant-loop-i
invariant-loop-i g l = Backing g.met.R.Record.laws l.a.n l.a.floats.now l.initial.x l.place.stride l.place.base l.x (l.a.n - l.i)
