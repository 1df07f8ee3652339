-- The loop keeps: the buffer is as long as it was.
use Rattle.std.proofs.Common.{◌≡◌, length}
use Rattle.dualrun.proofs.read_text.Given as goal

abbrev pub invariant-loop-read : goal.invariant-loop-read
invariant-loop-read l = length l.text ≡ length l.initial.text
