-- The entries: one whole number a line, column by column. Definitions only.
use Rattle.std.specs.Prelude.{ℕ, zero, suc, ◌+◌, ◌-◌, ◌*◌, ◌/◌, ◌%◌, Bool, true, false, cond, ◌&&◌, List, [], ◌∷◌, leb, ltb, eqb, length, get_or, drop, Float}
use Rattle.refusals.specs.Number as refusal
use Rattle.refusals.specs.Largest as largest
use Rattle.real.specs.Operations as float
use Rattle.algebra.specs.Flat.{tabulate}
use Rattle.algebra.specs.Outcome.{Outcome, value, refused, map_outcome}
use Rattle.texts.specs.Bytes as byte
use Rattle.texts.specs.Digits.{byte_at, is_digit}
use Rattle.texts.specs.Whole.{worth, past}
use Rattle.market.specs.Format.{signed}

-- an entry and the text after its line
pub record Line : Type 0 where
  pub number : Float
  pub rest : List ℕ

abbrev pub line : Float → List ℕ → Line
line x rest = record { number = x; rest = rest }

-- nothing is left of a text
abbrev pub is_over : List ℕ → Bool
is_over l = eqb (length l) 0

-- Digits and a newline: 10 for a magnitude above 2^53, 12 where the text ends, 10 for any other byte where a digit or the newline must stand.
unfoldable pub magnitude_line : Bool → List ℕ → Outcome Line
magnitude_line minus l =
    cond (ltb largest.whole (worth 0 l)) (refused refusal.unreadable_market)
    (cond (is_over (past l)) (refused refusal.wrong_entries)
    (cond (is_digit 10 (byte_at l 0) && eqb (byte_at (past l) 0) byte.newline) (value (line (signed minus (worth 0 l)) (drop 1 (past l))))
    (refused refusal.unreadable_market)))

-- the entry that a text begins with: a minus or none, then digits and a newline
unfoldable pub entry_of : List ℕ → Outcome Line
entry_of l = cond (eqb (byte_at l 0) byte.minus) (magnitude_line true (drop 1 l)) (magnitude_line false l)

-- an entry, then what f makes of the text after it
abbrev pub entry_then : (List ℕ → Outcome (List Float)) → Outcome Line → Outcome (List Float)
entry_then f (value l) = map_outcome (λ numbers. l.number ∷ numbers) (f l.rest)
entry_then f (refused number) = refused number

-- so many entries, then the end: 12 for any byte after the last
unfoldable pub numbers_of : ℕ → List ℕ → Outcome (List Float)
numbers_of zero l = cond (is_over l) (value []) (refused refusal.wrong_entries)
numbers_of (suc k) l = entry_then (numbers_of k) (entry_of l)

-- which entry stands at row r, column c of the lower half, r >= c: the c columns before hold c * n entries less those above the diagonal
abbrev pub lower_place : ℕ → ℕ → ℕ → ℕ
lower_place n r c = c * n + r - c * (c + 1) / 2

-- which entry stands at row r, column c
unfoldable pub place_of : Bool → ℕ → ℕ → ℕ → ℕ
place_of symmetric n r c = cond symmetric (cond (leb c r) (lower_place n r c) (lower_place n c r)) (c * n + r)

-- float number j of a matrix row by row, w floats a record: an entry as the real part, zero as any other
unfoldable pub float_of : ℕ → Bool → ℕ → List Float → ℕ → Float
float_of w symmetric n l j = cond (eqb (j % w) 0) (get_or l (place_of symmetric n (j / w / n) (j / w % n)) float.zero) float.zero

-- the matrix of such entries
unfoldable pub matrix_of : ℕ → Bool → ℕ → List Float → List Float
matrix_of w symmetric n l = tabulate (float_of w symmetric n l) (n * n * w) 0
