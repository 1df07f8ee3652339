-- What the answers of inner functions say of a text. Definitions only.
use Rattle.std.specs.Prelude.{ℕ, ◌*◌, ◌/◌, ◌<◌, ◌≡◌, Bool, cond, List, ltb, length, get_or, Float}
use Rattle.std.specs.Float.{nan}
use Rattle.real.specs.Operations as float
use Rattle.market.specs.Head.{Opened, opened}
use Rattle.market.specs.Entries.{Line, line, float_of}
use Rattle.market_reader.specs.declared.Opening.{Opening}
use Rattle.market_reader.specs.declared.Entry.{Entry}
use Rattle.market_reader.specs.Kinds.{is_symmetric}

-- what is opened: the matrix, and the text of its entries
abbrev pub opened_in : Opening → Opened
opened_in o = opened o.shape.n (is_symmetric o.shape.symmetry) o.entries.now

-- an entry: its number, and the text after it
abbrev pub line_in : Entry → Line
line_in e = line e.number e.rest.now

-- the first p records stand in the floats, and zeros after them
pub record PlacedUpTo (w : ℕ) (symmetric : Bool) (n : ℕ) (numbers : List Float) (p : ℕ) (out : List Float) : Type 0 where
  pub full : length out ≡ n * n * w
  pub each : (j : ℕ) → j < n * n * w → get_or out j nan ≡ cond (ltb (j / w) p) (float_of w symmetric n numbers j) float.zero
