-- The text of the table: a row for each bit, then the whole root's square with what it leaves, then the nearest. Definitions only.
use Rattle.std.specs.Prelude.{ℕ, zero, suc, ◌+◌, ◌-◌, ◌*◌, ◌/◌, Bool, cond, List, [], ◌∷◌, ◌++◌, ltb}
use Rattle.real.specs.declared.root.Found.{Found}
use Rattle.real.specs.Bits.{trial_of, fits_next, next_of}
use Rattle.texts.specs.Bytes.{newline}
use Rattle.texts.specs.Numbers.{decimal_text}
use Rattle.rootsteps.specs.Words.{heading, opening, bar, closing, leading_cells, yes, no, times, plus, equals, times_power, nearest_word, over_power}
use Rattle.rootsteps.specs.Start.{top_of, significand_of, exponent_of, start_of, found_of}

-- a word, and a number after it
unfoldable pub labelled : List ℕ → ℕ → List ℕ
labelled label n = label ++ decimal_text n

-- the last two cells of a row: the root so far, and what its square leaves
unfoldable pub row_end : ℕ → ℕ → List ℕ
row_end root left = labelled bar root ++ labelled bar left ++ closing

-- the heading and the row of the leading bit
unfoldable pub leading_row : ℕ → ℕ → List ℕ
leading_row top left = heading ++ labelled opening top ++ leading_cells ++ row_end top left

-- the cell that says whether a bit fits
abbrev pub verdict : Bool → List ℕ
verdict fits = cond fits yes no

-- the row of the next bit: its weight, the trial and the rest doubled, whether it fits, the root and what is left after it
unfoldable pub row_of : Found → List ℕ
row_of f =
    labelled opening f.bit ++ labelled bar (trial_of f) ++ labelled bar (2 * f.rest) ++ verdict (fits_next f)
    ++ row_end ((next_of f).twice / 2) (next_of f).rest

-- the rows of so many bits to come
unfoldable pub rows_of : ℕ → Found → List ℕ
rows_of zero f = []
rows_of (suc digits) f = row_of f ++ rows_of digits (next_of f)

-- the whole root, and what its square leaves of the number times a power of 2
unfoldable pub sum_line : ℕ → ℕ → ℕ → ℕ → List ℕ
sum_line root left number exponent =
    labelled (newline ∷ []) root ++ labelled times root ++ labelled plus left ++ labelled equals number ++ labelled times_power exponent ++ (newline ∷ [])

-- the whole number nearest to the root: one more where more than the root is left
abbrev pub nearest_of : ℕ → ℕ → ℕ
nearest_of root left = cond (ltb root left) (root + 1) root

-- the nearest over a power of 2
unfoldable pub nearest_line : ℕ → ℕ → ℕ → List ℕ
nearest_line root left power = labelled nearest_word (nearest_of root left) ++ labelled over_power power ++ (newline ∷ [])

-- what is printed for a number and so many bits: the leading bit, the bits after it, the whole root, the nearest
unfoldable pub table_of : ℕ → ℕ → List ℕ
table_of number bits =
    let a = significand_of number bits in
    let exponent = exponent_of number bits in
    let last = found_of number bits in
    leading_row (top_of bits) (a - top_of bits) ++ rows_of (bits - 1) (start_of a bits) ++ sum_line (last.twice / 2) last.rest number exponent ++ nearest_line (last.twice / 2) last.rest (exponent / 2)
