-- A subnormal significand is shifted up by its leading zeros; a normal one has its leading bit put back. Assumes nothing.
use Prim.Native.Nat.{◌*◌, ◌^◌, ◌%◌, ◌-◌, ◌≤◌, ◌<◌}
use native.Mathlib.Omega.{arith}
use lib.Count.{count_leading_zeros}
use Rattle.real.proofs.Patterns.{shift, scale_low, scale_high}
use Rattle.real.proofs.root.scale.Goals as goal

-- a significand below 2 ^ 52 has at least 11 leading zeros
pub overflow_sub-shift : goal.overflow_sub-shift
overflow_sub-shift c =
    let moved : (11 ≤ count_leading_zeros 64 (c.args.b % 4503599627370496)) × (count_leading_zeros 64 (c.args.b % 4503599627370496) - 11 ≤ 52) × (2 ^ 52 ≤ c.args.b % 4503599627370496 * 2 ^ (count_leading_zeros 64 (c.args.b % 4503599627370496) - 11)) × (c.args.b % 4503599627370496 * 2 ^ (count_leading_zeros 64 (c.args.b % 4503599627370496) - 11) < 2 ^ 53) = shift (c.args.b % 4503599627370496) (omega arith) (omega arith) in
    omega (arith, moved.0)

pub overflow_cast-result : goal.overflow_cast-result
overflow_cast-result c =
    let moved : (11 ≤ count_leading_zeros 64 (c.args.b % 4503599627370496)) × (count_leading_zeros 64 (c.args.b % 4503599627370496) - 11 ≤ 52) × (2 ^ 52 ≤ c.args.b % 4503599627370496 * 2 ^ (count_leading_zeros 64 (c.args.b % 4503599627370496) - 11)) × (c.args.b % 4503599627370496 * 2 ^ (count_leading_zeros 64 (c.args.b % 4503599627370496) - 11) < 2 ^ 53) = shift (c.args.b % 4503599627370496) (omega arith) (omega arith) in
    omega (arith, moved.1)

pub overflow_shl-result : goal.overflow_shl-result
overflow_shl-result c =
    let moved : (11 ≤ count_leading_zeros 64 (c.args.b % 4503599627370496)) × (count_leading_zeros 64 (c.args.b % 4503599627370496) - 11 ≤ 52) × (2 ^ 52 ≤ c.args.b % 4503599627370496 * 2 ^ (count_leading_zeros 64 (c.args.b % 4503599627370496) - 11)) × (c.args.b % 4503599627370496 * 2 ^ (count_leading_zeros 64 (c.args.b % 4503599627370496) - 11) < 2 ^ 53) = shift (c.args.b % 4503599627370496) (omega arith) (omega arith) in
    omega (arith, moved.1)

pub overflow_sub-result : goal.overflow_sub-result
overflow_sub-result c =
    let moved : (11 ≤ count_leading_zeros 64 (c.args.b % 4503599627370496)) × (count_leading_zeros 64 (c.args.b % 4503599627370496) - 11 ≤ 52) × (2 ^ 52 ≤ c.args.b % 4503599627370496 * 2 ^ (count_leading_zeros 64 (c.args.b % 4503599627370496) - 11)) × (c.args.b % 4503599627370496 * 2 ^ (count_leading_zeros 64 (c.args.b % 4503599627370496) - 11) < 2 ^ 53) = shift (c.args.b % 4503599627370496) (omega arith) (omega arith) in
    omega (arith, moved.1)

-- subnormal: shifted up, the exponent less by as much
pub returns-then-field-eq0 : goal.returns-then-field-eq0
returns-then-field-eq0 c = scale_low c.args.b c.requires.0 c.if-field-eq0.true

-- normal: the leading bit is put back
pub returns-else-field-eq0 : goal.returns-else-field-eq0
returns-else-field-eq0 c = scale_high c.args.b c.requires.1 c.if-field-eq0.false
