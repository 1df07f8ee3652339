-- The words of the table, by their bytes. Definitions only.
use Rattle.std.specs.Prelude.{ℕ, List, [], ◌∷◌}

-- the two lines above the rows: "| bit | trial | rest | fits | root | left |\n|---:|---:|---:|---|---:|---:|\n"
abbrev pub heading : List ℕ
heading = 124 ∷ 32 ∷ 98 ∷ 105 ∷ 116 ∷ 32 ∷ 124 ∷ 32 ∷ 116 ∷ 114 ∷ 105 ∷ 97 ∷ 108 ∷ 32 ∷ 124 ∷ 32 ∷ 114 ∷ 101 ∷ 115 ∷ 116 ∷ 32 ∷ 124 ∷ 32 ∷ 102 ∷ 105 ∷ 116 ∷ 115 ∷ 32 ∷ 124 ∷ 32 ∷ 114 ∷ 111 ∷ 111 ∷ 116 ∷ 32 ∷ 124 ∷ 32 ∷ 108 ∷ 101 ∷ 102 ∷ 116 ∷ 32 ∷ 124 ∷ 10 ∷ 124 ∷ 45 ∷ 45 ∷ 45 ∷ 58 ∷ 124 ∷ 45 ∷ 45 ∷ 45 ∷ 58 ∷ 124 ∷ 45 ∷ 45 ∷ 45 ∷ 58 ∷ 124 ∷ 45 ∷ 45 ∷ 45 ∷ 124 ∷ 45 ∷ 45 ∷ 45 ∷ 58 ∷ 124 ∷ 45 ∷ 45 ∷ 45 ∷ 58 ∷ 124 ∷ 10 ∷ []

-- before the first cell of a row: "| "
abbrev pub opening : List ℕ
opening = 124 ∷ 32 ∷ []

-- before any other cell: " | "
abbrev pub bar : List ℕ
bar = 32 ∷ 124 ∷ 32 ∷ []

-- after the last: " |\n"
abbrev pub closing : List ℕ
closing = 32 ∷ 124 ∷ 10 ∷ []

-- the cells of a trial, a rest and an answer where the bit is the leading one: " | | | yes"
abbrev pub leading_cells : List ℕ
leading_cells = 32 ∷ 124 ∷ 32 ∷ 124 ∷ 32 ∷ 124 ∷ 32 ∷ 121 ∷ 101 ∷ 115 ∷ []

-- the cell of a bit that fits: " | yes"
abbrev pub yes : List ℕ
yes = 32 ∷ 124 ∷ 32 ∷ 121 ∷ 101 ∷ 115 ∷ []

-- and of one that does not: " | no"
abbrev pub no : List ℕ
no = 32 ∷ 124 ∷ 32 ∷ 110 ∷ 111 ∷ []

-- between the factors of a square: " * "
abbrev pub times : List ℕ
times = 32 ∷ 42 ∷ 32 ∷ []

-- before what is left: " + "
abbrev pub plus : List ℕ
plus = 32 ∷ 43 ∷ 32 ∷ []

-- before the number: " = "
abbrev pub equals : List ℕ
equals = 32 ∷ 61 ∷ 32 ∷ []

-- before the exponent of a factor: " * 2^"
abbrev pub times_power : List ℕ
times_power = 32 ∷ 42 ∷ 32 ∷ 50 ∷ 94 ∷ []

-- before the last line's number: "\nnearest: "
abbrev pub nearest_word : List ℕ
nearest_word = 10 ∷ 110 ∷ 101 ∷ 97 ∷ 114 ∷ 101 ∷ 115 ∷ 116 ∷ 58 ∷ 32 ∷ []

-- before the exponent of a divisor: " / 2^"
abbrev pub over_power : List ℕ
over_power = 32 ∷ 47 ∷ 32 ∷ 50 ∷ 94 ∷ []

-- what is printed for any text that asks nothing: "two whole numbers, as in 2 8: the number, and how many bits of its root (2 to 26); the number is from 1 up and has at most so many bits\n"
abbrev pub refusal : List ℕ
refusal = 116 ∷ 119 ∷ 111 ∷ 32 ∷ 119 ∷ 104 ∷ 111 ∷ 108 ∷ 101 ∷ 32 ∷ 110 ∷ 117 ∷ 109 ∷ 98 ∷ 101 ∷ 114 ∷ 115 ∷ 44 ∷ 32 ∷ 97 ∷ 115 ∷ 32 ∷ 105 ∷ 110 ∷ 32 ∷ 50 ∷ 32 ∷ 56 ∷ 58 ∷ 32 ∷ 116 ∷ 104 ∷ 101 ∷ 32 ∷ 110 ∷ 117 ∷ 109 ∷ 98 ∷ 101 ∷ 114 ∷ 44 ∷ 32 ∷ 97 ∷ 110 ∷ 100 ∷ 32 ∷ 104 ∷ 111 ∷ 119 ∷ 32 ∷ 109 ∷ 97 ∷ 110 ∷ 121 ∷ 32 ∷ 98 ∷ 105 ∷ 116 ∷ 115 ∷ 32 ∷ 111 ∷ 102 ∷ 32 ∷ 105 ∷ 116 ∷ 115 ∷ 32 ∷ 114 ∷ 111 ∷ 111 ∷ 116 ∷ 32 ∷ 40 ∷ 50 ∷ 32 ∷ 116 ∷ 111 ∷ 32 ∷ 50 ∷ 54 ∷ 41 ∷ 59 ∷ 32 ∷ 116 ∷ 104 ∷ 101 ∷ 32 ∷ 110 ∷ 117 ∷ 109 ∷ 98 ∷ 101 ∷ 114 ∷ 32 ∷ 105 ∷ 115 ∷ 32 ∷ 102 ∷ 114 ∷ 111 ∷ 109 ∷ 32 ∷ 49 ∷ 32 ∷ 117 ∷ 112 ∷ 32 ∷ 97 ∷ 110 ∷ 100 ∷ 32 ∷ 104 ∷ 97 ∷ 115 ∷ 32 ∷ 97 ∷ 116 ∷ 32 ∷ 109 ∷ 111 ∷ 115 ∷ 116 ∷ 32 ∷ 115 ∷ 111 ∷ 32 ∷ 109 ∷ 97 ∷ 110 ∷ 121 ∷ 32 ∷ 98 ∷ 105 ∷ 116 ∷ 115 ∷ 10 ∷ []
