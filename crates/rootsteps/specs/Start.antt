-- Where the steps begin, as crates/real begins at 53 bits: the number is multiplied up until it has so many digits, and once more where the exponent would be
-- odd. Definitions only.
use Rattle.std.specs.Prelude.{ℕ, zero, suc, ◌+◌, ◌-◌, ◌*◌, ◌/◌, ◌%◌, ◌^◌, ◌≤◌, ◌<◌}
use Rattle.std.specs.Float.Ieee.{size}
use Rattle.real.specs.declared.root.Found.{Found}
use Rattle.real.specs.Bits.{next_of}
use Rattle.rootsteps.specs.Request.{fewest_bits, most_bits}

-- the weight of the leading bit of so many
abbrev pub top_of : ℕ → ℕ
top_of bits = 2 ^ (bits - 1)

-- how many factors 2 give the number so many digits
abbrev pub shift_of : ℕ → ℕ → ℕ
shift_of number bits = bits - size number

-- one more where the exponent would be odd
abbrev pub odd_of : ℕ → ℕ → ℕ
odd_of number bits = (shift_of number bits + (bits - 1)) % 2

-- the number with those factors
unfoldable pub significand_of : ℕ → ℕ → ℕ
significand_of number bits = number * 2 ^ (shift_of number bits + odd_of number bits)

-- the whole root is that of the significand times the leading bit's weight: the number times 2 to this, which is even
unfoldable pub exponent_of : ℕ → ℕ → ℕ
exponent_of number bits = shift_of number bits + (bits - 1) + odd_of number bits

-- a significand of so many digits, or of one more
pub record Scales (bits a : ℕ) : Type 0 where
  pub some : fewest_bits ≤ bits
  pub few : bits ≤ most_bits
  pub low : top_of bits ≤ a
  pub high : a < 4 * top_of bits

-- the leading bit of a significand's root is found
abbrev pub start_of : ℕ → ℕ → Found
start_of a bits = record { twice = 2 * top_of bits; rest = a - top_of bits; bit = top_of bits / 2 }

-- so many bits more
unfoldable pub last_of : ℕ → Found → Found
last_of zero f = f
last_of (suc digits) f = last_of digits (next_of f)

-- what is found of a number's root after so many bits
abbrev pub found_of : ℕ → ℕ → Found
found_of number bits = last_of (bits - 1) (start_of (significand_of number bits) bits)
