-- The loop keeps: what was passed is spoiled, what is to come is as it was (Spoiling).
use Prim.Native.Nat.{ℕ, ◌≤◌}
use mathlib.Core.Path.{◌≡◌}
use mathlib.Core.List.{List}
use lib.ListN.{length, get_or}
use lib.Ieee.{Float, nan}
use Rattle.floats.proofs.Fill.{Filled}
use Rattle.replay_jacobi.specs.Runs.{spoiled_at}
use Rattle.replay_jacobi.proofs.spoil.Given as goal

pub record Spoiling (n : ℕ) (l a : List Float) (k : ℕ) : Type 0 where
  pub long : length a ≡ length l
  pub filled : Filled nan (λ j. spoiled_at n j (get_or l j nan)) a k
  pub rest : (j : ℕ) → k ≤ j → get_or a j nan ≡ get_or l j nan

abbrev pub invariant-loop-k : goal.invariant-loop-k
invariant-loop-k l = Spoiling l.n l.initial.a l.a l.k
