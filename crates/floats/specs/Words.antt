-- Floats by their words, the bits of each: a NaN leaves as 7ff8000000000000. Definitions only.
use Rattle.std.specs.Prelude.{ℕ, List, map, get_or, Float}
use Rattle.std.specs.Float.{binary64}
use Rattle.std.specs.Float.Ieee.{of_bits, to_bits}
use Rattle.real.specs.Operations as float
use Rattle.algebra.specs.Flat.{tabulate}

-- the floats that the words stand for
abbrev pub floats_of : List ℕ → List Float
floats_of words = map (of_bits binary64) words

-- the first floats of the words, so many: +0.0 where there is no word
unfoldable pub first_floats : List ℕ → ℕ → List Float
first_floats words count = tabulate (λ i. get_or (floats_of words) i float.zero) count 0

-- the words of the floats
abbrev pub words_of : List Float → List ℕ
words_of floats = map (to_bits binary64) floats
