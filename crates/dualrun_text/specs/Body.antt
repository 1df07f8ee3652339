-- The lines after the first: two words of 16 lowercase hex digits, a space between them, a newline at the end. So every word has 16 digits and one byte
-- after it, and word number i of the lines that begin at `start` stands at start + 17 * i. Definitions only.
use Rattle.std.specs.Prelude.{ℕ, ◌+◌, ◌*◌, ◌%◌, ◌≤◌, Bool, cond, ◌&&◌, Option, Some, None, List, eqb, length, Float}
use Rattle.std.specs.Float.{binary64}
use Rattle.std.specs.Float.Ieee.{of_bits}
use Rattle.refusals.specs.Largest as largest
use Rattle.texts.specs.Bytes.{newline, space}
use Rattle.texts.specs.Digits.{byte_at, every, digit_run, number_at}
use Rattle.algebra.specs.Flat.{tabulate}

-- the digits of a word, and its bytes with the one after it
abbrev pub word_digits : ℕ
word_digits = 16

abbrev pub word_bytes : ℕ
word_bytes = 17

-- n is not too large, so that its matrix has no more floats than the largest
pub record Fits (n : ℕ) : Type 0 where
  pub few : n ≤ largest.n
  pub square : n * n ≤ largest.n * largest.n

-- the floats of the largest matrix
abbrev pub most_floats : ℕ
most_floats = largest.n * largest.n * 2

-- the byte after word number i: a space after the first word of a line, a newline after the second
abbrev pub separator_of : ℕ → ℕ
separator_of i = cond (eqb (i % 2) 0) space newline

-- word number i is 16 digits and the byte that is wanted after it
unfoldable pub is_word : List ℕ → ℕ → ℕ → Bool
is_word text start i = eqb (digit_run 16 word_digits text (start + word_bytes * i)) word_digits && eqb (byte_at text (start + word_bytes * i + word_digits)) (separator_of i)

-- what its digits spell
unfoldable pub word_of : List ℕ → ℕ → ℕ → ℕ
word_of text start i = number_at 16 text (start + word_bytes * i) word_digits

-- word number i, if it is one
abbrev pub word_at : List ℕ → ℕ → ℕ → Option ℕ
word_at text start i = cond (is_word text start i) (Some (word_of text start i)) None

-- from start on the text is so many words in such lines, and nothing after
unfoldable pub is_body : List ℕ → ℕ → ℕ → Bool
is_body text start count = eqb (length text) (start + word_bytes * count) && every (is_word text start) count

-- the float of word number i: every NaN pattern is the one NaN
abbrev pub float_at : List ℕ → ℕ → ℕ → Float
float_at text start i = of_bits binary64 (word_of text start i)

-- the floats of so many words
unfoldable pub floats_from : List ℕ → ℕ → ℕ → List Float
floats_from text start count = tabulate (float_at text start) count 0
