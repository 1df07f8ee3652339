-- The loop keeps: k digits are read, which spell the value, and the run is those and what is left (Scanned).
use Rattle.texts.proofs.Digits.{Scanned}
use Rattle.texts.proofs.read.scan.Given as goal

abbrev pub invariant-loop-k : goal.invariant-loop-k
invariant-loop-k l = Scanned l.base l.text l.most l.p l.value l.k
