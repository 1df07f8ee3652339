-- The documents' numbers for refusals, in the order of their tables. Definitions only.
use Rattle.std.specs.Prelude.{ℕ}

-- n above the largest
abbrev pub too_large : ℕ
too_large = 1

-- a lent length is not the one wanted
abbrev pub wrong_length : ℕ
wrong_length = 2

-- Jacobi with n = 0
abbrev pub empty : ℕ
empty = 3

-- a sweep limit above the largest
abbrev pub limit_too_large : ℕ
limit_too_large = 4

-- a powi exponent above the largest or below the least
abbrev pub exponent_too_large : ℕ
exponent_too_large = 5

-- no pivot exceeds zero; the column stands beside it
abbrev pub singular : ℕ
singular = 6

-- a lent order is not a permutation
abbrev pub not_an_order : ℕ
not_an_order = 7

-- a determinant's swap count is above the largest, or of the other parity than the order
abbrev pub wrong_swaps : ℕ
wrong_swaps = 8

-- a text that `dualrun` cannot read
abbrev pub unreadable : ℕ
unreadable = 9

-- a Matrix Market text that is too long, or whose header, size line or number cannot be read, or a magnitude above the largest
abbrev pub unreadable_market : ℕ
unreadable_market = 10

-- a Matrix Market text of a matrix that is not square
abbrev pub not_square : ℕ
not_square = 11

-- a Matrix Market text with too few entries, or any byte after the last
abbrev pub wrong_entries : ℕ
wrong_entries = 12

-- a matrix that cannot be written: a real part that is no whole number up to the largest, or a derivative part that is not zero
abbrev pub unwritable : ℕ
unwritable = 20
