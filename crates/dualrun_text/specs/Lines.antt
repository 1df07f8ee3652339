-- What is printed: numbers in decimal, floats as words, records, orders. Definitions only.
use Rattle.std.specs.Prelude.{ℕ, zero, suc, ◌+◌, ◌*◌, cond, List, [], ◌∷◌, ◌++◌, eqb, get_or, Float}
use Rattle.std.specs.Float.{binary64}
use Rattle.std.specs.Float.Ieee.{to_bits}
use Rattle.texts.specs.Bytes.{newline, space}
use Rattle.texts.specs.Numbers.{decimal_text, hex_text}
use Rattle.real.specs.Operations as float

-- a float as its word in 16 lowercase hex digits: a NaN is 7ff8000000000000
unfoldable pub word_text : Float → List ℕ
word_text x = hex_text (to_bits binary64 x)

-- the number of a refusal, alone on a line
unfoldable pub refusal_line : ℕ → List ℕ
refusal_line number = decimal_text number ++ (newline ∷ [])

-- two numbers on a line
unfoldable pub pair_line : ℕ → ℕ → List ℕ
pair_line a b = decimal_text a ++ (space ∷ []) ++ decimal_text b ++ (newline ∷ [])

-- a record on a line
unfoldable pub record_line : Float → Float → List ℕ
record_line re eps = word_text re ++ (space ∷ []) ++ word_text eps ++ (newline ∷ [])

-- so many records of flat floats, one a line
unfoldable pub record_lines : List Float → ℕ → List ℕ
record_lines l zero = []
record_lines l (suc k) = record_lines l k ++ record_line (get_or l (2 * k) float.zero) (get_or l (2 * k + 1) float.zero)

-- entry number i of an order, a space before it unless it is the first
abbrev pub entry_text : ℕ → ℕ → List ℕ
entry_text i x = cond (eqb i 0) (decimal_text x) ((space ∷ []) ++ decimal_text x)

-- the first so many entries of an order
unfoldable pub entries : List ℕ → ℕ → List ℕ
entries order zero = []
entries order (suc i) = entries order i ++ entry_text i (get_or order i 0)

-- an order of so many entries on a line; none is an empty line
unfoldable pub order_line : List ℕ → ℕ → List ℕ
order_line order n = entries order n ++ (newline ∷ [])
