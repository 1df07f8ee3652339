-- The loop keeps: the words passed are those of their places (Filling).
use Prim.Native.Nat.{ℕ, ◌-◌, ◌*◌, ◌/◌, ◌%◌, ◌^◌}
use mathlib.Core.List.{List}
use lib.ListN.{length, get_or}
use Rattle.floats.proofs.Fill.{Filling}
use Rattle.replay_table.proofs.record_of.Given as goal

-- word number i of the record
abbrev pub placed : List ℕ → ℕ → ℕ → ℕ → ℕ
placed pool places parts i = get_or pool (places / 2 ^ ((parts - 1 - i) * 8) % 256) 0

abbrev pub invariant-loop-i : goal.invariant-loop-i
invariant-loop-i l = Filling 0 (placed l.pool l.places (length l.initial.out)) (length l.initial.out) l.out l.i
