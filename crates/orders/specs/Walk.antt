-- How the code tests a lent order in one walk: numbers marked in a word. Definitions only.
use Rattle.std.specs.Prelude.{ℕ, ◌+◌, ◌-◌, ◌*◌, ◌/◌, ◌%◌, ◌^◌, Bool, eqb}
use Rattle.std.specs.Int.Bits.{bit_xor}
use Rattle.orders.specs.declared.Marks.{Marks}

-- x is marked in w
abbrev pub marked : ℕ → ℕ → Bool
marked w x = eqb (w / 2 ^ x % 2) 1

-- x in a word: bit 32 + x for itself, and a bit for each number below it
abbrev pub mark_of : ℕ → ℕ
mark_of x = 2 ^ x * 2 ^ 32 + (2 ^ x - 1)

-- nothing has come
abbrev pub marks_none : Marks
marks_none = record { word = 0; inversions = 0 }

-- x has come: it makes as many inversions as numbers above it have come, an odd number of them where bit x is set
abbrev pub marks_with : Marks → ℕ → Marks
marks_with m x = record { word = bit_xor m.word (mark_of x); inversions = bit_xor m.inversions (m.word / 2 ^ x) }

-- the numbers below n have come, each an odd number of times, and no others
abbrev pub is_full : ℕ → ℕ → Bool
is_full n word = eqb (word / 2 ^ 32) (2 ^ n - 1)
