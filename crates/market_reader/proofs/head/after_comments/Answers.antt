-- The loop keeps: from i on the text is still to be passed as it was from its start on.
use Rattle.std.proofs.Common.{rules}
use Rattle.market_reader.proofs.HeadLines.{passing_inside, passing_begins, passing_stops, passing_ends}
use Rattle.market_reader.proofs.head.after_comments.Goals as goal
use Rattle.market_reader.proofs.head.after_comments.Goals.{else-not-inside-via-then-not-inside+else-b-ne37, else-not-inside-via-else-not-inside}

pub returns-then-b-ne37 : goal.returns-then-b-ne37
returns-then-b-ne37 c = search (rules, passing_stops)

pub loop-i-preserved : goal.loop-i-preserved
loop-i-preserved c =
    elim c.else-not-inside.branch [
      | else-not-inside-via-then-not-inside+else-b-ne37 w ↦ search (rules, passing_begins)
      | else-not-inside-via-else-not-inside w ↦ search (rules, passing_inside)
    ]

pub returns : goal.returns
returns c = search (rules, passing_ends)
