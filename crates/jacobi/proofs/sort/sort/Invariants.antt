-- The loop keeps: what is left to select gives the whole order.
use Prim.Native.Nat.{◌-◌}
use mathlib.Core.Path.{◌≡◌}
use Rattle.algebra.specs.Loop.{upto}
use Rattle.dual.specs.Rules.{dual_algebra}
use Rattle.rotations.specs.Buffers.{SameWork}
use Rattle.jacobi.specs.Answer.{pairs_of}
use Rattle.jacobi.specs.Sort.{select, sort}
use Rattle.jacobi.proofs.sort.sort.Given as goal

abbrev pub invariant-loop-k : goal.invariant-loop-k
invariant-loop-k l = record {
  same : SameWork l.initial.work l.work;
  rest : upto l.k (l.initial.work.n - 1) (select dual_algebra l.initial.work.n) (pairs_of l.work) ≡ sort dual_algebra l.initial.work.n (pairs_of l.initial.work);
}
