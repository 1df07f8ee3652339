-- The loop keeps: what is left to compare gives the least.
use Prim.Native.Nat.{◌<◌}
use mathlib.Core.Path.{◌≡◌}
use Rattle.algebra.specs.Loop.{upto}
use Rattle.dual.specs.Rules.{dual_algebra, dual_records}
use Rattle.jacobi.specs.Sort.{smaller, least}
use Rattle.jacobi.proofs.sort.least.Given as goal

abbrev pub invariant-loop-l : goal.invariant-loop-l
invariant-loop-l l = record {
  inside : l.m < l.work.n;
  rest : upto l.l l.work.n (smaller dual_algebra l.work.n (dual_records l.work.d.now)) l.m ≡ least dual_algebra l.work.n (dual_records l.work.d.now) l.k;
}
