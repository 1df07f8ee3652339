-- What an entry leaves, compared with the words and numbers of a file. Definitions only.
use Rattle.std.specs.Prelude.{ℕ, Bool, false, cond, ◌&&◌, List, eqb, length, replicate, Float, Result, Ok, Err}
use Rattle.std.specs.Float.{binary64}
use Rattle.std.specs.Float.Ieee.{to_bits}
use Rattle.algebra.specs.Outcome.{Outcome, value, refused, number_of}
use Rattle.matrices.specs.Answers.{lu_outcome, lu_column}
use Rattle.matrices.specs.declared.LuRefusal.{LuRefusal}
use Rattle.replay.specs.Same.{has_words, same_numbers}
use Rattle.replay_matrices.specs.declared.Numbers.{Numbers}

-- the words are those of the floats, as many and in order; a NaN's is 7ff8000000000000
abbrev pub same_floats : List ℕ → List Float → Bool
same_floats words floats = has_words (to_bits binary64) words floats

-- every number is 0; every float is +0.0
abbrev pub zero_numbers : List ℕ → Bool
zero_numbers l = same_numbers (replicate (length l) 0) l

abbrev pub zero_floats : List Float → Bool
zero_floats l = same_floats (replicate (length l) 0) l

-- LU's answer: document 01's number, and the swap count or the column beside it
abbrev pub lu_numbers : Result ℕ LuRefusal → Numbers
lu_numbers (Ok swaps) = record { number = 0; swaps_or_column = swaps }
lu_numbers (Err refusal) = record { number = number_of (lu_outcome (Err refusal)); swaps_or_column = lu_column (Err refusal) }

-- the numbers are the recorded ones, and the buffers too, or all zero where a refusal is recorded
unfoldable pub same_lu : Numbers → List ℕ → List ℕ → Numbers → List ℕ → List Float → Bool
same_lu wanted numbers words got order factors =
    eqb wanted.number got.number && (eqb wanted.swaps_or_column got.swaps_or_column &&
    cond (eqb wanted.number 0)
    (same_numbers numbers order && same_floats words factors)
    (zero_numbers order && zero_floats factors))

-- done, with floats of the recorded words; a refusal is never the same
abbrev pub same_outcome : List ℕ → Outcome (List Float) → Bool
same_outcome words (value floats) = same_floats words floats
same_outcome words (refused number) = false
