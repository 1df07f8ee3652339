-- The loop keeps: the words passed are those of the parts; at its end all are.
use Prim.Native.Nat.{ℕ}
use mathlib.Core.List.{List}
use lib.ListN.{length, get_or}
use lib.Ieee.{Float, binary64, nan, to_bits}
use Rattle.floats.proofs.Fill.{Filling}
use Rattle.floats.proofs.words.put.Given as goal

-- the word of part number k
abbrev pub word_at : List Float → ℕ → ℕ
word_at parts k = to_bits binary64 (get_or parts k nan)

abbrev pub invariant-loop-i : goal.invariant-loop-i
invariant-loop-i l = Filling 0 (word_at l.parts) (length l.initial.out) l.out l.i
