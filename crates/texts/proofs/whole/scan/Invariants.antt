-- The loop keeps: the first k bytes are digits, value stands for their number, and the text is worth what is left of it with that number in front (Scanning).
use Rattle.texts.proofs.WholeNumbers.{Scanning}
use Rattle.texts.proofs.whole.scan.Given as goal

abbrev pub invariant-loop-k : goal.invariant-loop-k
invariant-loop-k l = Scanning l.most l.text l.value l.k
