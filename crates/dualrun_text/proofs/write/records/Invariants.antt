-- The loop keeps: the records passed are written (Listing).
use Rattle.dualrun_text.proofs.Lines.{Listing}
use Rattle.std.proofs.Common.{length}
use Rattle.dualrun_text.proofs.write.records.Given as goal

abbrev pub invariant-loop-parts : goal.invariant-loop-parts
invariant-loop-parts l = Listing l.floats l.initial.page l.page l.parts-iterator (length l.yielded)
