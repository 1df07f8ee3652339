-- The sign bit of a float, and its magnitude. Definitions only.
use Rattle.std.specs.Prelude.{Bool, false, cond, Float}
use Rattle.std.specs.Float.{nan, inf, fin}
use Rattle.std.specs.Float.Ieee.{neg}

-- the sign bit, so -0 is negative; the one NaN has none and counts as positive
unfoldable pub sign_of : Float → Bool
sign_of nan = false
sign_of (inf s) = s
sign_of (fin s m e) = s

-- the float with its sign bit clear
unfoldable pub abs_of : Float → Float
abs_of x = cond (sign_of x) (neg x) x
