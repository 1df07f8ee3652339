-- What the inner functions tell. Definitions only.
use Rattle.std.specs.Prelude.{ℕ, cond, Option, Some, None, Float}
use Rattle.market.specs.Text.{magnitude, whole_part, is_whole}

-- a whole number of magnitude up to 2^53: its magnitude, if it is one
unfoldable pub whole_of : Float → Option ℕ
whole_of x = cond (is_whole x) (Some (whole_part (magnitude x))) None
