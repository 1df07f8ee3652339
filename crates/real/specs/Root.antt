-- The square root of a float, correctly rounded: the float nearest the exact root, a tie to the even one (none occurs). Definitions only.
-- There are no real numbers here: where the exact root lies is said over whole numbers, by squares. Written as lib.Ieee's `round` is.
use Prim.Native.Nat.{ℕ, zero, suc, ◌+◌, ◌-◌, ◌*◌, ◌/◌, ◌^◌, compare}
use Rattle.std.specs.Prelude.{true, false, cond, leb, Float}
use Rattle.std.specs.Float.{nan, inf, fin, Format, binary64}
use Rattle.std.specs.Float.Ieee.{prec, low, up, down, size, nearest, units}

-- The whole root of an n below 4 ^ d, digit by digit: the root of n / 4 without its last digit, then that digit.
unfoldable pub root_in : ℕ → ℕ → ℕ
root_in zero n = 0
root_in (suc d) n = let w = 2 * root_in d (n / 4) in cond (leb ((w + 1) * (w + 1)) n) (w + 1) w

-- The largest w with w * w ≤ n.
unfoldable pub whole_root : ℕ → ℕ
unfolding root_in size
whole_root n = root_in (size n) n

-- The value of the format f that is nearest to √n, counted in units of f's smallest value.
-- Of the whole part w of √n the format keeps the `prec` leading digits q and drops k, so the result is q * 2 ^ k units, or the next multiple up:
-- by how √n compares with the middle of the two, (q + 1/2) * 2 ^ k, both doubled and squared.
unfoldable pub root : Format → ℕ → Float
unfolding whole_root size units
root f n =
    let w = whole_root n in
    let k = size w - prec f in
    let q = w / 2 ^ k in
    let middle = (2 * q + 1) * 2 ^ k in
    units f false (nearest q (compare (4 * n) (middle * middle))) k

-- The root of m * 2 ^ e: in units of 2 ^ -low its square is m * 2 ^ e * 2 ^ (2 * low), which is whole for every value that the format holds. At m = 0 it is +0.
-- -0 gives itself, +infinity gives itself, anything else below zero and a NaN give a NaN.
unfoldable pub root_of : Format → Float → Float
unfolding root
root_of f nan = nan
root_of f (inf true) = nan
root_of f (inf false) = inf false
root_of f (fin true zero e) = fin true zero e
root_of f (fin true (suc m) e) = nan
root_of f (fin false m e) = root f (m * up e * 2 ^ (2 * low f) / down e)

-- The square root of an f64.
abbrev pub sqrt_of : Float → Float
sqrt_of = root_of binary64
