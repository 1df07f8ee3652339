-- When the beginning of a text decides what `dualrun` writes, whatever follows (crates/dualrun_text/proofs/LineDecides.antt). Definitions only.
use Rattle.std.specs.Prelude.{ℕ, Bool, not, ◌&&◌, ◌||◌, List, leb, eqb, length}
use Rattle.texts.specs.Digits.{no_newline}
use Rattle.dualrun_text.specs.Request.{longest_line, request_of, line_refusal}

-- the first line has come: its newline, or as many bytes as the longest that can be read has
unfoldable pub has_line : List ℕ → Bool
has_line text = leb longest_line (length text) || not (no_newline text)

-- the first line has come, and is refused or cannot be read
unfoldable pub decided_of : List ℕ → Bool
decided_of text = has_line text && not (eqb (line_refusal (request_of text)) 0)
