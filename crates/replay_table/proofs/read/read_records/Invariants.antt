-- What is read so far lies within the lent words.
use Prim.Native.Nat.{◌≤◌}
use Rattle.replay_table.proofs.read.read_records.Given as goal

abbrev pub invariant-loop : goal.invariant-loop
invariant-loop g l = l.at ≤ 96
