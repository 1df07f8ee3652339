-- What stands before the entries: the header, comment lines, the size line. Definitions only.
use Rattle.std.specs.Prelude.{ℕ, Bool, true, false, cond, not, ◌&&◌, ◌||◌, List, [], ◌∷◌, ltb, eqb, length, drop}
use Rattle.refusals.specs.Number as refusal
use Rattle.refusals.specs.Largest as largest
use Rattle.algebra.specs.Outcome.{Outcome, value, refused, map_outcome}
use Rattle.texts.specs.Bytes as byte
use Rattle.texts.specs.Digits.{byte_at, is_digit, starts_with}
use Rattle.texts.specs.Whole.{worth, past}
use Rattle.market.specs.Format.{header}

-- an n by n matrix, symmetric or not, whose entries stand in the rest of the text
pub record Opened : Type 0 where
  pub n : ℕ
  pub symmetric : Bool
  pub rest : List ℕ

abbrev pub opened : ℕ → Bool → List ℕ → Opened
opened n symmetric rest = record { n = n; symmetric = symmetric; rest = rest }

-- the text after its comment lines, each from a % to its newline; `inside` says whether it begins inside one
unfoldable pub comments : Bool → List ℕ → List ℕ
comments inside [] = []
comments inside (b ∷ l) = cond (inside || eqb b byte.percent) (comments (not (eqb b byte.newline)) l) (b ∷ l)

-- the sizes: 11 where they differ, then 1 above the largest
unfoldable pub squared : Bool → ℕ → ℕ → List ℕ → Outcome Opened
squared s rows columns rest =
    cond (eqb rows columns) (cond (ltb largest.n rows) (refused refusal.too_large) (value (opened rows s rest))) (refused refusal.not_square)

-- the number of columns and the newline
unfoldable pub columns_line : Bool → ℕ → List ℕ → Outcome Opened
columns_line s rows l =
    cond (is_digit 10 (byte_at l 0) && eqb (byte_at (past l) 0) byte.newline) (squared s rows (worth 0 l) (drop 1 (past l))) (refused refusal.unreadable_market)

-- the number of rows and a space, then the columns
unfoldable pub size_line : Bool → List ℕ → Outcome Opened
size_line s l =
    cond (is_digit 10 (byte_at l 0) && eqb (byte_at (past l) 0) byte.space) (columns_line s (worth 0 l) (drop 1 (past l))) (refused refusal.unreadable_market)

-- comment lines and the size line after a header
abbrev pub after_header : Bool → List ℕ → Outcome Opened
after_header s text = size_line s (comments false (drop (length (header s)) text))

-- what a text opens with
unfoldable pub head_of : List ℕ → Outcome Opened
head_of text =
    cond (ltb largest.market (length text)) (refused refusal.unreadable_market)
    (cond (starts_with (header false) text) (after_header false text)
    (cond (starts_with (header true) text) (after_header true text)
    (refused refusal.unreadable_market)))

-- size(text)
unfoldable pub size_of : List ℕ → Outcome ℕ
size_of text = map_outcome (λ o. o.n) (head_of text)
