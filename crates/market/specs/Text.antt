-- A matrix as a text: the header, the size line, its entries column by column; no comments, no leading zeros. Definitions only.
use Rattle.std.specs.Prelude.{ℕ, zero, suc, ◌+◌, ◌*◌, ◌/◌, ◌%◌, Bool, false, cond, ◌&&◌, List, [], ◌∷◌, ◌++◌, leb, eqb, pos, length, get_or, Float}
use Rattle.std.specs.Float.{binary64}
use Rattle.std.specs.Float.Ieee.{of_bits, neg, lt, eq, of_int, to_unsigned}
use Rattle.refusals.specs.Largest as largest
use Rattle.real.specs.Operations as float
use Rattle.texts.specs.Bytes as byte
use Rattle.texts.specs.Digits.{every}
use Rattle.texts.specs.Numbers.{decimal_text}
use Rattle.market.specs.Format.{header, sign}

-- x without its minus: -0 stays
unfoldable pub magnitude : Float → Float
magnitude x = cond (lt x float.zero) (neg x) x

-- the whole part of a magnitude, where 64 bits hold it
abbrev pub whole_part : Float → ℕ
whole_part m = to_unsigned 64 m

-- -1 < m < 2^64: where 64 bits hold the whole part
abbrev pub in_range : Float → Bool
in_range m = lt (neg (of_bits binary64 0x3ff0_0000_0000_0000)) m && lt m (of_bits binary64 0x43f0_0000_0000_0000)

-- m is in that range, its whole part at most 2^53, and it equals its whole part
unfoldable pub is_whole_magnitude : Float → Bool
is_whole_magnitude m = in_range m && (leb (whole_part m) largest.whole && eq (of_int binary64 (pos (whole_part m))) m)

-- x is a whole number of magnitude up to 2^53
abbrev pub is_whole : Float → Bool
is_whole x = is_whole_magnitude (magnitude x)

-- a minus or none, the digits of a magnitude, and a newline
unfoldable pub number_line : Bool → ℕ → List ℕ
number_line minus v = sign minus ++ decimal_text v ++ (byte.newline ∷ [])

-- the line of a whole number; a float that is none has no line
unfoldable pub line_of : Float → List ℕ
line_of x = cond (is_whole x) (number_line (lt x float.zero) (whole_part (magnitude x))) []

-- entry number k, column by column, of an n by n matrix whose records have w floats
unfoldable pub entry_at : ℕ → ℕ → List Float → ℕ → Float
entry_at w n a k = get_or a ((k % n * n + k / n) * w) float.zero

-- the lines of the first so many entries
unfoldable pub lines_of : ℕ → ℕ → List Float → ℕ → List ℕ
lines_of w n a zero = []
lines_of w n a (suc k) = lines_of w n a k ++ line_of (entry_at w n a k)

-- the size line
unfoldable pub size_text : ℕ → List ℕ
size_text n = decimal_text n ++ (byte.space ∷ []) ++ decimal_text n ++ (byte.newline ∷ [])

-- the whole text
unfoldable pub text_of : ℕ → ℕ → List Float → List ℕ
text_of w n a = header false ++ size_text n ++ lines_of w n a (n * n)

-- float number j can be written: a whole number as a real part, zero as any other part
unfoldable pub fits_at : ℕ → List Float → ℕ → Bool
fits_at w a j = cond (eqb (j % w) 0) (is_whole (get_or a j float.zero)) (eq (get_or a j float.zero) float.zero)

-- the matrix can be written
unfoldable pub is_writable : ℕ → List Float → Bool
is_writable w a = every (fits_at w a) (length a)
