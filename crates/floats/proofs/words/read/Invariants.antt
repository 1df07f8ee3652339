-- The loop keeps: the floats passed are those of the words; at its end all are.
use lib.ListN.{length, get_or}
use lib.Ieee.{nan}
use Rattle.real.specs.Operations as float
use Rattle.floats.specs.Words.{floats_of}
use Rattle.floats.proofs.Fill.{Filling}
use Rattle.floats.proofs.words.read.Given as goal

abbrev pub invariant-loop-i : goal.invariant-loop-i
invariant-loop-i l = Filling nan (λ k. get_or (floats_of l.words) k float.zero) (length l.initial.floats) l.floats l.i
