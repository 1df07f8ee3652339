-- The table of functions in oracle/README.md ("Functions"), and the fields of a case. Definitions only.
use Rattle.std.specs.Prelude.{ℕ, ◌+◌, ◌-◌, ◌*◌, ◌/◌, ◌%◌, ◌^◌, Bool, cond, ◌&&◌, List, [], ◌∷◌, eqb, leb, ℤ, pos, negsuc, get_or, Option, Some, None}
use Rattle.refusals.specs.Largest as largest
use Rattle.algebra.specs.Flat.{tabulate}
use Rattle.replay.specs.Same.{same_numbers}
use Rattle.replay_table.specs.declared.Shape.{Shape}

-- the words of the longest run: twelve records of the widest
abbrev pub most_words : ℕ
most_words = 12 * largest.width

-- and of the longest answer: two records of the widest
abbrev pub most_answer : ℕ
most_answer = 2 * largest.width

-- from number 00 on, in four digits each: how many records (f: the case says how many), exponents and floats a case has, and how many records its answer has
-- (0: it is a whole number)
abbrev pub table : List ℕ
table =
    0x0000 ∷  -- 00: no function
    0x0001 ∷ 0x0001 ∷ 0x0000 ∷ 0x0011 ∷  -- 01: zero, one, NDERIV, from_re
    0x1001 ∷ 0x1001 ∷ 0x1001 ∷ 0x1001 ∷  -- 05: derivative, derivative1, derivative2, derivative3
    0x2001 ∷ 0x2001 ∷ 0x2001 ∷ 0x2001 ∷ 0x1001 ∷  -- 09: add, sub, mul, div, neg
    0x1011 ∷ 0x1011 ∷ 0x1011 ∷ 0x1011 ∷ 0x1011 ∷  -- 0e: times, divided by, plus, minus a float; scale
    0x0000 ∷ 0x0000 ∷  -- 13: no function
    0x1001 ∷ 0x1001 ∷ 0x2001 ∷  -- 15: abs, signum, abs_sub
    0x1001 ∷ 0x1001 ∷ 0x1001 ∷ 0x1111 ∷ 0x1021 ∷  -- 18: recip, inv, sqrt, powi, powf
    0x1011 ∷ 0x1011 ∷ 0x1011 ∷ 0x1021 ∷  -- 1d: cbrt, exp, exp2, exp_m1
    0x1011 ∷ 0x1021 ∷ 0x1011 ∷ 0x1011 ∷ 0x1011 ∷  -- 21: ln, log, log2, log10, ln_1p
    0x1021 ∷ 0x1021 ∷ 0x1022 ∷ 0x1021 ∷  -- 26: sin, cos, sin_cos, tan
    0x1011 ∷ 0x1011 ∷ 0x1011 ∷ 0x2021 ∷  -- 2a: asin, acos, atan, atan2
    0x1021 ∷ 0x1021 ∷ 0x1021 ∷ 0x1011 ∷ 0x1011 ∷ 0x1011 ∷  -- 2e: sinh, cosh, tanh, asinh, acosh, atanh
    0x1021 ∷ 0x1021 ∷ 0x1021 ∷ 0x3001 ∷ 0x2021 ∷  -- 34: sph_j0, sph_j1, sph_j2, mul_add, powd
    0xf001 ∷ 0xf001 ∷  -- 39: sum, product
    0x2000 ∷ 0x2000 ∷ 0x2000 ∷ 0x2000 ∷ 0x2000 ∷  -- 3b: eq, lt, le, gt, ge
    0x1000 ∷ 0x1000 ∷ 0x1000 ∷ 0x1000 ∷  -- 40: is_negative, is_positive, is_zero, is_one
    0x1021 ∷  -- 44: sph_j1_series
    []

-- a digit of a line: f is no number, since the case says it
abbrev pub said : ℕ → Option ℕ
said digit = cond (eqb digit 15) None (Some digit)

-- the line of a number: 0000 where there is none
abbrev pub shape_in : ℕ → Shape
shape_in line = record { records = said (line / 0x1000 % 16); exponents = line / 0x100 % 16; floats = line / 0x10 % 16; answers = line % 16 }

unfoldable pub shape_of : ℕ → Shape
shape_of function = shape_in (get_or table function 0)

-- a whole number is one word; a record has so many parts, sin_cos gives two
abbrev pub answer_words : ℕ → ℕ → ℕ
answer_words answers parts = cond (eqb answers 0) 1 (cond (eqb answers 1) parts (parts + parts))

-- the words of a record of places: two digits a part, each the number of a word of the pool
unfoldable pub record_of : List ℕ → ℕ → ℕ → List ℕ
record_of pool places parts = tabulate (λ i. get_or pool (places / 2 ^ ((parts - 1 - i) * 8) % 256) 0) parts 0

-- a number of 32 bits from its 64-bit two's complement; 0 of any other word
unfoldable pub exponent_of : ℕ → ℤ
exponent_of w = cond (leb w 0x7fffffff) (pos w) (cond (leb (2 ^ 64 - 1 - w) 0x7fffffff) (negsuc (2 ^ 64 - 1 - w)) (pos 0))

-- 0 of the word of 0.0, 1 of the word of 1.0, 2 of any other
abbrev pub truth_of : ℕ → ℕ
truth_of word = cond (eqb word 0) 0 (cond (eqb word 0x3ff0000000000000) 1 2)

-- the number and the words are the recorded ones
unfoldable pub same_answer : ℕ → List ℕ → ℕ → List ℕ → Bool
same_answer wanted words number left = eqb wanted number && same_numbers words left
