-- The loop keeps the root so far, what its square leaves, and the digits still to come. Assumes nothing.
use Prim.Native.Nat.{ℕ, ◌*◌, ◌^◌}
use Rattle.real.specs.declared.root.Found.{Found}
use Rattle.real.proofs.BitByBit.{Kept}
use Rattle.real.proofs.root.whole_root.Given as goal

-- of the root of n, with so many digits still to come
pub record Finding (n : ℕ) (f : Found) : Type 0 where
  pub digits : ℕ
  pub kept : Kept (2 ^ 53) n digits f

abbrev pub invariant-loop-found : goal.invariant-loop-found
invariant-loop-found l = Finding (l.a * 2 ^ 52) l.found

abbrev pub decreases-loop-found : goal.decreases-loop-found
decreases-loop-found l = l.found.bit
