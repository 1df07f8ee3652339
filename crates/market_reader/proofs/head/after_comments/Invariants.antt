-- The loop keeps: from i on the text is still to be passed as it was from its start on.
use Rattle.std.proofs.Common.{◌≡◌, false, drop}
use Rattle.market.specs.Head.{comments}
use Rattle.market_reader.proofs.head.after_comments.Given as goal

abbrev pub invariant-loop-i : goal.invariant-loop-i
invariant-loop-i l = comments false l.text ≡ comments l.inside (drop l.i l.text)
