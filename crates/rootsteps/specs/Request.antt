-- What is asked: `NUMBER BITS`, each in one to nine decimal digits, one space between them, nothing after them but a newline, which may be missing. Definitions only.
use Rattle.std.specs.Prelude.{ℕ, ◌+◌, ◌^◌, ◌≤◌, ◌<◌, Bool, cond, ◌&&◌, ◌||◌, Option, Some, None, List, leb, ltb, eqb, length}
use Rattle.texts.specs.declared.Number.{Number}
use Rattle.texts.specs.Bytes.{newline, space}
use Rattle.texts.specs.Digits.{byte_at}
use Rattle.texts.specs.Numbers.{number_from}
use Rattle.rootsteps.specs.declared.Steps.{Steps}

-- the most digits of a number
abbrev pub number_digits : ℕ
number_digits = 9

-- the fewest bits of a root, and the most
abbrev pub fewest_bits : ℕ
fewest_bits = 2

abbrev pub most_bits : ℕ
most_bits = 26

-- so many bits can be found, and the number is from 1 up and has no more
pub record Askable (number bits : ℕ) : Type 0 where
  pub some : fewest_bits ≤ bits
  pub few : bits ≤ most_bits
  pub positive : 0 < number
  pub fits : number < 2 ^ bits

-- the same as a test
unfoldable pub is_askable : ℕ → ℕ → Bool
is_askable number bits = leb fewest_bits bits && (leb bits most_bits && (ltb 0 number && ltb number (2 ^ bits)))

-- the steps to the root of a number, in so many bits
abbrev pub steps : ℕ → ℕ → Option Steps
steps number bits = Some (record { number = number; bits = bits })

-- two numbers ask for the steps if they can
unfoldable pub asked : ℕ → ℕ → Option Steps
asked number bits = cond (is_askable number bits) (steps number bits) None

-- nothing stands from p on, or a newline and nothing after it
unfoldable pub ends_at : List ℕ → ℕ → Bool
ends_at text p = eqb (length text) p || (eqb (length text) (p + 1) && eqb (byte_at text p) newline)

-- after NUMBER: BITS, and the end of the text
abbrev pub with_bits : List ℕ → ℕ → Option Number → Option Steps
with_bits text number (Some bits) = cond (ends_at text bits.end) (asked number bits.value) None
with_bits text number None = None

-- BITS from p on
unfoldable pub bits_from : List ℕ → ℕ → ℕ → Option Steps
bits_from text number p = with_bits text number (number_from number_digits text p)

-- NUMBER, a space, and so on
abbrev pub with_number : List ℕ → Option Number → Option Steps
with_number text (Some number) = cond (eqb (byte_at text number.end) space) (bits_from text number.value (number.end + 1)) None
with_number text None = None

-- what a text asks
unfoldable pub request_of : List ℕ → Option Steps
request_of text = with_number text (number_from number_digits text 0)
