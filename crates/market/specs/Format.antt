-- The format, line by line, apart from any reader: which texts are Matrix Market texts of the two kinds, of which matrix, and which of them are as the writer
-- writes them. Definitions only.
use Rattle.std.specs.Prelude.{ℕ, zero, suc, ◌+◌, ◌-◌, ◌*◌, ◌/◌, ◌%◌, ◌≤◌, ◌<◌, ◌≡◌, Bool, true, false, cond, ◌&&◌, List, [], ◌∷◌, ◌++◌, ltb, pos, length, get_or, Float}
use Rattle.std.specs.Float.{binary64}
use Rattle.std.specs.Float.Ieee.{neg, of_int}
use Rattle.refusals.specs.Largest as largest
use Rattle.real.specs.Operations as float
use Rattle.texts.specs.Bytes as byte
use Rattle.texts.specs.Digits.{byte_at, is_digit, no_newline}
use Rattle.texts.specs.Whole.{worth}

-- "%%MatrixMarket matrix array integer "
abbrev pub opening : List ℕ
opening = 37 ∷ 37 ∷ 77 ∷ 97 ∷ 116 ∷ 114 ∷ 105 ∷ 120 ∷ 77 ∷ 97 ∷ 114 ∷ 107 ∷ 101 ∷ 116 ∷ 32 ∷ 109 ∷ 97 ∷ 116 ∷ 114 ∷ 105 ∷ 120 ∷ 32 ∷ 97 ∷ 114 ∷ 114 ∷ 97 ∷ 121 ∷ 32 ∷ 105 ∷ 110 ∷ 116 ∷ 101 ∷ 103 ∷ 101 ∷ 114 ∷ 32 ∷ []

-- the first line: the opening, then "general" or "symmetric", and a newline
abbrev pub header : Bool → List ℕ
header true = opening ++ (115 ∷ 121 ∷ 109 ∷ 109 ∷ 101 ∷ 116 ∷ 114 ∷ 105 ∷ 99 ∷ 10 ∷ [])
header false = opening ++ (103 ∷ 101 ∷ 110 ∷ 101 ∷ 114 ∷ 97 ∷ 108 ∷ 10 ∷ [])

-- how many entries an n by n matrix has: all, or the diagonal and below
unfoldable pub count_of : Bool → ℕ → ℕ
count_of symmetric n = cond symmetric (n * (n + 1) / 2) (n * n)

-- the float of a magnitude up to 2^53 with a minus or without: -0 is +0
unfoldable pub signed : Bool → ℕ → Float
signed minus v = cond (minus && ltb 0 v) (neg (of_int binary64 (pos v))) (of_int binary64 (pos v))

-- the minus of a number, if it has one
abbrev pub sign : Bool → List ℕ
sign minus = cond minus (byte.minus ∷ []) []

-- one digit or more, and nothing else
pub record Digits (l : List ℕ) : Type 0 where
  pub some : 0 < length l
  pub all : (j : ℕ) → j < length l → is_digit 10 (byte_at l j) ≡ true

-- no zero stands in front of another digit
abbrev pub Short : List ℕ → Type 0
Short l = byte_at l 0 ≡ byte.digit_zero → length l ≡ 1

-- comment lines: each a %, any bytes, and a newline
pub data Comments : List ℕ → Type 0 where
  none : Comments []
  comment : (line rest : List ℕ) → no_newline line ≡ true → Comments rest → Comments (byte.percent ∷ (line ++ (byte.newline ∷ rest)))

-- Entries, a line each: a minus or none, digits of a magnitude up to 2^53, a newline; with the numbers that they are. `tidy`: no zero in front, and no -0.
pub data Entries (tidy : Bool) : List ℕ → List Float → Type 0 where
  none : Entries tidy [] []
  entry : (minus : Bool) (digits rest : List ℕ) (numbers : List Float) → Digits digits → worth 0 digits ≤ largest.whole → (tidy ≡ true → Short digits)
      → (tidy ≡ true → minus ≡ true → 0 < worth 0 digits)
      → Entries tidy rest numbers → Entries tidy (sign minus ++ (digits ++ (byte.newline ∷ rest))) (signed minus (worth 0 digits) ∷ numbers)

-- A text of an n by n matrix whose entries, column by column, are these numbers: header, comment lines, the size line (rows, a space, columns, a newline), and as
-- many entries as there are to be. `tidy`: as the writer writes, without comments, zeros in front and -0.
pub record Market (tidy symmetric : Bool) (n : ℕ) (numbers : List Float) (text : List ℕ) : Type 0 where
  pub comments : List ℕ
  pub rows : List ℕ
  pub columns : List ℕ
  pub entries : List ℕ
  pub lines : text ≡ header symmetric ++ (comments ++ (rows ++ (byte.space ∷ (columns ++ (byte.newline ∷ entries)))))
  pub commented : Comments comments
  pub plain : tidy ≡ true → comments ≡ []
  pub row_digits : Digits rows
  pub column_digits : Digits columns
  pub short_rows : tidy ≡ true → Short rows
  pub short_columns : tidy ≡ true → Short columns
  pub height : worth 0 rows ≡ n
  pub breadth : worth 0 columns ≡ n
  pub listed : Entries tidy entries numbers
  pub count : length numbers ≡ count_of symmetric n
  pub few : n ≤ largest.n
  pub fits : length text ≤ largest.market

-- a text that ends before so many entries do: with something more it would be they
pub record CutShort (k : ℕ) (text : List ℕ) : Type 0 where
  pub more : List ℕ
  pub numbers : List Float
  pub some : 0 < length more
  pub listed : Entries false (text ++ more) numbers
  pub count : length numbers ≡ k

-- a text that goes on after so many entries
pub record GoesOn (k : ℕ) (text : List ℕ) : Type 0 where
  pub entries : List ℕ
  pub rest : List ℕ
  pub numbers : List Float
  pub parts : text ≡ entries ++ rest
  pub some : 0 < length rest
  pub listed : Entries false entries numbers
  pub count : length numbers ≡ k

-- so many entries of column c, from row r on
unfoldable pub column_from : (ℕ → ℕ → Float) → ℕ → ℕ → ℕ → List Float
column_from at c r zero = []
column_from at c r (suc d) = at r c ∷ column_from at c (r + 1) d

-- the row that a column begins with: the first of all, or the diagonal's
abbrev pub first_row : Bool → ℕ → ℕ
first_row symmetric c = cond symmetric c 0

-- so many columns, from column c on, each to the last row
unfoldable pub columns_from : Bool → ℕ → (ℕ → ℕ → Float) → ℕ → ℕ → List Float
columns_from symmetric n at c zero = []
columns_from symmetric n at c (suc d) = column_from at c (first_row symmetric c) (n - first_row symmetric c) ++ columns_from symmetric n at (c + 1) d

-- the real part at row r, column c of a matrix row by row, w floats a record
abbrev pub real_at : ℕ → ℕ → List Float → ℕ → ℕ → Float
real_at w n a r c = get_or a ((r * n + c) * w) float.zero

-- A matrix of these numbers: its real parts, column by column (all, or the diagonal and below, and the same above it), are the numbers; every other part is zero.
pub record Holds (w : ℕ) (symmetric : Bool) (n : ℕ) (numbers a : List Float) : Type 0 where
  pub long : length a ≡ n * n * w
  pub columns : columns_from symmetric n (real_at w n a) 0 n ≡ numbers
  pub mirrored : symmetric ≡ true → (r c : ℕ) → r < n → c < n → real_at w n a r c ≡ real_at w n a c r
  pub slopes : (j : ℕ) → j < n * n * w → (j % w ≡ 0 → ⊥) → get_or a j float.zero ≡ float.zero
