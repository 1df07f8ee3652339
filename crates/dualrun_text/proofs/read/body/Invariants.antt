-- The loop keeps: the words below i are good, and their floats stand in the matrix (Reading).
use Rattle.std.proofs.Common.{length}
use Rattle.dualrun_text.proofs.Words.{Reading}
use Rattle.dualrun_text.proofs.read.body.Given as goal

abbrev pub invariant-loop-i : goal.invariant-loop-i
invariant-loop-i l = Reading l.rest 0 (length l.initial.matrix) l.matrix l.i
