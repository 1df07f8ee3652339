-- The loop keeps: the floats passed are those of `from`; at its end all are.
use lib.ListN.{length, get_or}
use lib.Ieee.{nan}
use Rattle.floats.proofs.Fill.{Filling}
use Rattle.floats.proofs.copy.Given as goal

abbrev pub invariant-loop-i : goal.invariant-loop-i
invariant-loop-i l = Filling nan (λ k. get_or l.from k nan) (length l.initial.to) l.to l.i
