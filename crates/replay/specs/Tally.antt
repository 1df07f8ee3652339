-- The count of a file's cases. Definitions only.
use Rattle.std.specs.Prelude.{ℕ, ◌+◌, ◌-◌, ◌^◌, Bool, false, cond, ltb, Result, Ok, Err}
use Rattle.replay.specs.declared.Cut.{Cut}
use Rattle.replay.specs.declared.tally.Tally.{Tally}
use Rattle.replay.specs.declared.tally.Run.{Run}

-- a count that reaches the greatest number of 64 bits stays there
unfoldable pub one_more : ℕ → ℕ
one_more n = cond (ltb n (2 ^ 64 - 1)) (n + 1) n

abbrev pub tally : ℕ → ℕ → Tally
tally compared different = record { compared = compared; different = different }

-- one case more
unfoldable pub counted_of : Tally → Bool → Tally
counted_of t same = tally (one_more t.compared) (cond same t.different (one_more t.different))

-- after what comes before the cases: where it is not whole, that is a case that differs, and none is left
unfoldable pub begun_of : {A : Type 0} → Run → Result A Cut → Run
begun_of run (Ok _) = run
begun_of run (Err _) = record { tally = counted_of run.tally false; left = 0 }

-- after one case more: one that was not read whole differs, and none is left after it
unfoldable pub after_of : Run → Result Bool Cut → Run
after_of run (Ok same) = record { tally = counted_of run.tally same; left = run.left - 1 }
after_of run (Err _) = record { tally = counted_of run.tally false; left = 0 }
