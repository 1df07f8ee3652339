-- What a call of the reader leaves. Definitions only.
use Rattle.std.specs.Prelude.{ℕ, ◌*◌, Bool, cond, List, eqb, length, Float}
use Rattle.refusals.specs.Number as refusal
use Rattle.algebra.specs.Outcome.{Outcome, value, refused}
use Rattle.market.specs.Answers.{Left, answered}
use Rattle.market.specs.Format.{count_of}
use Rattle.market.specs.Head.{Opened, head_of}
use Rattle.market.specs.Entries.{numbers_of, matrix_of}

module _ (w : ℕ) (out : List Float) where
  -- the entries placed, or nothing written
  abbrev pub read_numbers : Bool → ℕ → Outcome (List Float) → Left Float
  read_numbers symmetric n (value l) = answered (value n) (matrix_of w symmetric n l)
  read_numbers symmetric n (refused number) = answered (refused number) out

  -- 2: the lent length is not the one wanted; then the entries
  unfoldable pub read_body : Bool → ℕ → List ℕ → Left Float
  read_body symmetric n rest = cond (eqb (length out) (n * n * w)) (read_numbers symmetric n (numbers_of (count_of symmetric n) rest)) (answered (refused refusal.wrong_length) out)

  abbrev pub read_opened : Outcome Opened → Left Float
  read_opened (value o) = read_body o.symmetric o.n o.rest
  read_opened (refused number) = answered (refused number) out

-- read(text, out), w floats a record
unfoldable pub read_left : ℕ → List ℕ → List Float → Left Float
read_left w text out = read_opened w out (head_of text)
