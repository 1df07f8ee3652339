-- A replay ends: fewer cases are left after each. Assumes nothing.
use Prim.Native.Nat.{◌<◌}
use mathlib.Core.Path.{◌≡◌}
use mathlib.Core.Bool.{Bool}
use Rattle.std.proofs.Common.{Result, Ok, Err}
use native.Mathlib.Omega.{arith}
use Rattle.replay.specs.declared.Cut.{Cut}
use Rattle.replay.specs.declared.tally.Run.{Run}
use Rattle.replay.specs.Tally.{after_of}

pub falls : (run next : Run) (case : Result Bool Cut) → 0 < run.left → next ≡ after_of run case → next.left < run.left
unfolding after_of
falls run next (Ok same) h e = rw e (omega arith)
falls run next (Err _) h e = rw e h
