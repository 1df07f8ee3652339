-- The documents' limits: the largest that is not refused. Definitions only.
use Rattle.std.specs.Prelude.{ℕ, ℤ, pos, negsuc}

-- of the n of a matrix
abbrev pub n : ℕ
n = 32

-- of the floats of a record: those of HyperHyperDual
abbrev pub width : ℕ
width = 8

-- of a limit of sweeps
abbrev pub limit : ℕ
limit = 1000

-- of powi's exponent, and the least: -1024
abbrev pub exponent : ℤ
exponent = pos 1024

abbrev pub least_exponent : ℤ
least_exponent = negsuc 1023

-- of a determinant's swap count
abbrev pub swaps : ℕ
swaps = 32

-- of the bytes of a Matrix Market text that is read
abbrev pub market : ℕ
market = 65536

-- of the magnitude of a whole number in a text: 2^53
abbrev pub whole : ℕ
whole = 9007199254740992
