-- What a call of the writer leaves. Definitions only.
use Rattle.std.specs.Prelude.{ℕ, ◌-◌, ◌*◌, cond, ◌&&◌, List, ◌++◌, ltb, eqb, length, replicate, Float}
use Rattle.refusals.specs.Number as refusal
use Rattle.refusals.specs.Largest as largest
use Rattle.algebra.specs.Outcome.{value, refused}
use Rattle.market.specs.Answers.{Left, answered}
use Rattle.market.specs.Text.{text_of, is_writable}

-- the bytes that the writer is lent
abbrev pub page : ℕ
page = 20480

-- the text, its length told, and zeros to the end of the lent bytes
unfoldable pub write_text : List ℕ → Left ℕ
write_text t = answered (value (length t)) (t ++ replicate (page - length t) 0)

-- write(n, a, text), w floats a record: 1, 2, 20
unfoldable pub write_left : ℕ → ℕ → List Float → List ℕ → Left ℕ
write_left w n a text =
    cond (ltb largest.n n) (answered (refused refusal.too_large) text)
    (cond (eqb (length a) (n * n * w) && eqb (length text) page)
    (cond (is_writable w a) (write_text (text_of w n a)) (answered (refused refusal.unwritable) text))
    (answered (refused refusal.wrong_length) text))
