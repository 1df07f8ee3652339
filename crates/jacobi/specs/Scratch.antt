-- How large a scratch the run takes: no answer depends on it. Definitions only.
use Rattle.std.specs.Prelude.{ℕ}

-- up to here n has a scratch of its own, which is cleared in no time
abbrev pub small_n : ℕ
small_n = 8
