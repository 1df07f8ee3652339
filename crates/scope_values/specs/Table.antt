-- Document 01's values P1 to P12 as one table, and those of document 02's wishes as another: in each claim what the definitions give, and what the
-- document says, as numbers. A float is its word. Definitions only.
use Rattle.std.specs.Prelude.{ℕ, ◌*◌, Bool, true, false, ◌&&◌, List, [], ◌∷◌, ◌++◌, map, eqb, replicate, pos, negsuc, Float}
use Rattle.std.specs.Float.{binary64}
use Rattle.std.specs.Float.Ieee.{of_bits, to_bits, round}
use Rattle.real.specs.Operations as float
use Rattle.real.specs.Root.{sqrt_of}
use Rattle.algebra.specs.Outcome.{Outcome, value, refused, number_of}
use Rattle.derivatives.specs.Apply as apply
use Rattle.derivatives.specs.declared.Function.TheVariants.{Powi, SphJ1, SphJ1Series}
use Rattle.dual.specs.declared.Dual.{Dual}
use Rattle.dual.specs.Rules.{dual, dual_div, dual_algebra, dual_layout}
use Rattle.dual3.specs.declared.Dual3.{Dual3}
use Rattle.dual3.specs.Rules.{dual3, dual3_mul, dual3_sub, dual3_div_float, dual3_algebra}
use Rattle.hyperhyperdual.specs.declared.HyperHyperDual.{HyperHyperDual}
use Rattle.hyperhyperdual.specs.Rules.{hyper_hyper_dual, hyper_hyper_dual_algebra, hyper_hyper_dual_layout}
use Rattle.matrices.specs.Lu.{count_up}
use Rattle.matrices.specs.Entries.{LuLeft, SolveLeft, lu_left, solve_left, inverse_left, determinant_left}
use Rattle.jacobi.specs.Entry.{JacobiLeft, jacobi_left}

-- what is got, and what is wanted
pub record Claim : Type 0 where
  pub got : List ℕ
  pub wanted : List ℕ

abbrev pub claim : List ℕ → List ℕ → Claim
claim got wanted = record { got = got; wanted = wanted }

-- two lists of numbers are equal
unfoldable pub same : List ℕ → List ℕ → Bool
same [] [] = true
same [] (y ∷ m) = false
same (x ∷ l) [] = false
same (x ∷ l) (y ∷ m) = eqb x y && same l m

-- every claim gives what is wanted
unfoldable pub every : List Claim → Bool
every [] = true
every (r ∷ t) = same r.got r.wanted && every t

-- floats by their words, and words of floats
abbrev pub floats : List ℕ → List Float
floats = map (of_bits binary64)

abbrev pub words : List Float → List ℕ
words = map (to_bits binary64)

-- 5.0 and 49.0
abbrev pub five : Float
five = of_bits binary64 0x4014_0000_0000_0000

abbrev pub forty_nine : Float
forty_nine = of_bits binary64 0x4048_8000_0000_0000

-- a record's parts, or the number that it is refused by
abbrev pub dual_words : Outcome Dual → List ℕ
dual_words (value x) = 0 ∷ words (x.re ∷ x.eps ∷ [])
dual_words (refused n) = n ∷ []

abbrev pub dual3_words : Outcome Dual3 → List ℕ
dual3_words (value x) = 0 ∷ words (x.re ∷ x.v1 ∷ x.v2 ∷ x.v3 ∷ [])
dual3_words (refused n) = n ∷ []

abbrev pub hyper_hyper_dual_words : Outcome HyperHyperDual → List ℕ
hyper_hyper_dual_words (value x) = 0 ∷ words (hyper_hyper_dual_layout.parts x)
hyper_hyper_dual_words (refused n) = n ∷ []

-- the number and the count or 0
abbrev pub counted : Outcome ℕ → List ℕ
counted (value n) = 0 ∷ n ∷ []
counted (refused n) = n ∷ 0 ∷ []

-- what LU leaves: number, swap count, column, order, factors
abbrev pub lu_words : LuLeft → List ℕ
lu_words l = counted l.answer ++ (l.column ∷ l.order) ++ words l.factors

-- LU of a matrix of n by n given by words, into buffers that hold other things
abbrev pub lu_words-of : ℕ → ℕ → List ℕ → List ℕ
lu_words-of n count a = lu_words (lu_left dual_algebra dual_layout n (floats a) (replicate count forty_nine) (replicate n 7))

-- what solve or inverse leaves: number, result
abbrev pub solve_words : SolveLeft → List ℕ
solve_words l = number_of l.answer ∷ words l.result

-- what Jacobi leaves: number, sweep count, values, vectors
abbrev pub jacobi_words : JacobiLeft → List ℕ
jacobi_words l = counted l.answer ++ words l.values ++ words l.vectors

-- Jacobi of a 2 by 2 matrix given by words, limit 200
abbrev pub jacobi_words-of : List ℕ → List ℕ
jacobi_words-of a = jacobi_words (jacobi_left dual_algebra dual_layout 2 (floats a) 200 (replicate 4 forty_nine) (replicate 8 forty_nine))

-- the other entries of n by n zeros, with the order 0, 1, .., n - 1, no swaps and limit 200, into buffers of the lengths wanted that hold other things
abbrev pub solve_of_zeros : ℕ → SolveLeft
solve_of_zeros n = solve_left dual_algebra dual_layout n (replicate (n * n * 2) float.zero) (count_up n) (replicate (n * 2) float.zero) (replicate (n * 2) forty_nine)

abbrev pub inverse_of_zeros : ℕ → SolveLeft
inverse_of_zeros n = inverse_left dual_algebra dual_layout n (replicate (n * n * 2) float.zero) (count_up n) (replicate (n * n * 2) forty_nine)

abbrev pub determinant_of_zeros : ℕ → Outcome Dual
determinant_of_zeros n = determinant_left dual_algebra dual_layout n (replicate (n * n * 2) float.zero) (count_up n) 0

abbrev pub jacobi_of_zeros : ℕ → JacobiLeft
jacobi_of_zeros n = jacobi_left dual_algebra dual_layout n (replicate (n * n * 2) float.zero) 200 (replicate (n * 2) forty_nine) (replicate (n * n * 2) forty_nine)

-- P1 to P12, then the two unmarked values of Jacobi
unfoldable pub table : List Claim
table =
    -- P1: the factors of the listing: one swap, order 1 0
    claim (lu_words-of 2 8 (0 ∷ 0x3ff0_0000_0000_0000 ∷ 0x4000_0000_0000_0000 ∷ 0 ∷ 0x3ff0_0000_0000_0000 ∷ 0 ∷ 0 ∷ 0 ∷ []))
    (0 ∷ 1 ∷ 0 ∷ 1 ∷ 0 ∷ 0x3ff0_0000_0000_0000 ∷ 0 ∷ 0 ∷ 0 ∷ 0 ∷ 0x3ff0_0000_0000_0000 ∷ 0x4000_0000_0000_0000 ∷ 0 ∷ [])
    -- P2: (49, 0) / (49, 0) has real part below 1
    ∷ claim (to_bits binary64 (dual_div (dual forty_nine float.zero) (dual forty_nine float.zero)).re ∷ []) (0x3fef_ffff_ffff_ffff ∷ [])
    -- P3: [[49,49],[49,49]] keeps row 0; the last pivot is 2^-47
    ∷ claim (lu_words-of 2 8 (0x4048_8000_0000_0000 ∷ 0 ∷ 0x4048_8000_0000_0000 ∷ 0 ∷ 0x4048_8000_0000_0000 ∷ 0 ∷ 0x4048_8000_0000_0000 ∷ 0 ∷ []))
    (0 ∷ 0 ∷ 0 ∷ 0 ∷ 1 ∷ 0x4048_8000_0000_0000 ∷ 0 ∷ 0x4048_8000_0000_0000 ∷ 0 ∷ 0x3fef_ffff_ffff_ffff ∷ 0 ∷ 0x3d00_0000_0000_0000 ∷ 0 ∷ [])
    -- P4: [[1,2],[1,2]] is refused 6, column 1; both buffers zero
    ∷ claim (lu_words-of 2 8 (0x3ff0_0000_0000_0000 ∷ 0 ∷ 0x4000_0000_0000_0000 ∷ 0 ∷ 0x3ff0_0000_0000_0000 ∷ 0 ∷ 0x4000_0000_0000_0000 ∷ 0 ∷ []))
    (6 ∷ 0 ∷ 1 ∷ 0 ∷ 0 ∷ 0 ∷ 0 ∷ 0 ∷ 0 ∷ 0 ∷ 0 ∷ 0 ∷ 0 ∷ [])
    -- P5: the 1 by 1 matrix (0, 1) is refused 6, column 0
    ∷ claim (lu_words-of 1 2 (0 ∷ 0x3ff0_0000_0000_0000 ∷ [])) (6 ∷ 0 ∷ 0 ∷ 0 ∷ 0 ∷ 0 ∷ [])
    -- P6: n = 0: LU gives 0 with no swaps, determinant (1, 0); Jacobi gives 3
    ∷ claim (lu_words-of 0 0 []) (0 ∷ 0 ∷ 0 ∷ [])
    ∷ claim (dual_words (determinant_left dual_algebra dual_layout 0 [] [] 0)) (0 ∷ 0x3ff0_0000_0000_0000 ∷ 0 ∷ [])
    ∷ claim (jacobi_words (jacobi_left dual_algebra dual_layout 0 [] 200 [] [])) (3 ∷ 0 ∷ [])
    -- P7: n = 32 passes the size check: LU of 2,048 zeros is refused 6, column 0, both buffers zero, and the other entries are done; 33 gives 1, nothing written
    ∷ claim (lu_words-of 32 2048 (replicate 2048 0)) (6 ∷ 0 ∷ 0 ∷ replicate 32 0 ++ replicate 2048 0)
    ∷ claim (number_of (solve_of_zeros 32).answer ∷ number_of (inverse_of_zeros 32).answer ∷ number_of (determinant_of_zeros 32) ∷ number_of (jacobi_of_zeros 32).answer ∷ []) (0 ∷ 0 ∷ 0 ∷ 0 ∷ [])
    ∷ claim (lu_words-of 33 2178 (replicate 2178 0)) (1 ∷ 0 ∷ 0 ∷ replicate 33 7 ++ replicate 2178 0x4048_8000_0000_0000)
    ∷ claim (solve_words (solve_of_zeros 33)) (1 ∷ replicate 66 0x4048_8000_0000_0000)
    ∷ claim (solve_words (inverse_of_zeros 33)) (1 ∷ replicate 2178 0x4048_8000_0000_0000)
    ∷ claim (dual_words (determinant_of_zeros 33)) (1 ∷ [])
    ∷ claim (jacobi_words (jacobi_of_zeros 33)) (1 ∷ 0 ∷ replicate 66 0x4048_8000_0000_0000 ++ replicate 2178 0x4048_8000_0000_0000)
    -- P8: (5,1) powi 2 is (25,10); `Dual3` (5,1,0,0) powi 3 with 1 supplied is (125,75,30,6)
    ∷ claim (dual_words (apply.apply_of dual_algebra 1 (dual five float.one) (Powi (pos 2) float.one))) (0 ∷ 0x4039_0000_0000_0000 ∷ 0x4024_0000_0000_0000 ∷ [])
    ∷ claim (dual3_words (apply.apply_of dual3_algebra 3 (dual3 five float.one float.zero float.zero) (Powi (pos 3) float.one)))
    (0 ∷ 0x405f_4000_0000_0000 ∷ 0x4052_c000_0000_0000 ∷ 0x403e_0000_0000_0000 ∷ 0x4018_0000_0000_0000 ∷ [])
    -- P9: exponent 1,024 accepted, 1,025 and -1,025 give 5
    ∷ claim (
    number_of (apply.apply_of dual_algebra 1 (dual five float.one) (Powi (pos 1024) float.one))
    ∷ number_of (apply.apply_of dual_algebra 1 (dual five float.one) (Powi (negsuc 1023) float.one))
    ∷ number_of (apply.apply_of dual_algebra 1 (dual five float.one) (Powi (pos 1025) float.one))
    ∷ number_of (apply.apply_of dual_algebra 1 (dual five float.one) (Powi (negsuc 1024) float.one)) ∷ []
    )
    (0 ∷ 0 ∷ 5 ∷ 5 ∷ [])
    -- P10: root of 2^-1074 is 2^-537; root of -0 is -0
    ∷ claim (words (map sqrt_of (floats (1 ∷ 0x8000_0000_0000_0000 ∷ [])))) (0x1e60_0000_0000_0000 ∷ 0x8000_0000_0000_0000 ∷ [])
    -- P11: sqrt of (0, 1) is 0 with a NaN derivative
    ∷ claim (dual_words (value (apply.sqrt_of dual_algebra (dual float.zero float.one)))) (0 ∷ 0 ∷ 0x7ff8_0000_0000_0000 ∷ [])
    -- P12: diagonal 3, 1: no sweep, eigenvalues 1, 3, columns exchanged
    ∷ claim (jacobi_words-of (0x4008_0000_0000_0000 ∷ 0 ∷ 0 ∷ 0 ∷ 0 ∷ 0 ∷ 0x3ff0_0000_0000_0000 ∷ 0 ∷ []))
    (0 ∷ 0 ∷ 0x3ff0_0000_0000_0000 ∷ 0 ∷ 0x4008_0000_0000_0000 ∷ 0 ∷ 0 ∷ 0 ∷ 0x3ff0_0000_0000_0000 ∷ 0 ∷ 0x3ff0_0000_0000_0000 ∷ 0 ∷ 0 ∷ 0 ∷ [])
    -- [[2,1],[99,2]]: one sweep, eigenvalues 1, 3; the 99 is not read
    ∷ claim (jacobi_words-of (0x4000_0000_0000_0000 ∷ 0 ∷ 0x3ff0_0000_0000_0000 ∷ 0 ∷ 0x4058_c000_0000_0000 ∷ 0 ∷ 0x4000_0000_0000_0000 ∷ 0 ∷ []))
    (0 ∷ 1 ∷ 0x3ff0_0000_0000_0000 ∷ 0 ∷ 0x4008_0000_0000_0000 ∷ 0 ∷ 0x3fe6_a09e_667f_3bcd ∷ 0 ∷ 0x3fe6_a09e_667f_3bcc ∷ 0 ∷ 0xbfe6_a09e_667f_3bcc ∷ 0 ∷ 0x3fe6_a09e_667f_3bcd ∷ 0 ∷ [])
    -- [[1, 2^-600],[2^-600, 2]]: the square vanishes, no sweep, eigenvalues 1, 2
    ∷ claim (jacobi_words-of (0x3ff0_0000_0000_0000 ∷ 0 ∷ 0x1a70_0000_0000_0000 ∷ 0 ∷ 0x1a70_0000_0000_0000 ∷ 0 ∷ 0x4000_0000_0000_0000 ∷ 0 ∷ []))
    (0 ∷ 0 ∷ 0x3ff0_0000_0000_0000 ∷ 0 ∷ 0x4000_0000_0000_0000 ∷ 0 ∷ 0x3ff0_0000_0000_0000 ∷ 0 ∷ 0 ∷ 0 ∷ 0 ∷ 0 ∷ 0x3ff0_0000_0000_0000 ∷ 0 ∷ [])
    ∷ []

-- `Dual3` (0, 1, 0, 0) and `HyperHyperDual` (0; 1, 1, 1; 0, 0, 0; 0): the argument itself at the centre
abbrev pub dual3_centre : Dual3
dual3_centre = dual3 float.zero float.one float.zero float.zero

abbrev pub hyper_hyper_dual_centre : HyperHyperDual
hyper_hyper_dual_centre = hyper_hyper_dual float.zero float.one float.one float.one float.zero float.zero float.zero float.zero

-- `Dual3` (2^-52 - 2^-104, 1, -2^51, -1.5), and the series rule with its cube from the right
abbrev pub dual3_tie : Dual3
dual3_tie = dual3 (of_bits binary64 0x3caf_ffff_ffff_fffe) float.one (of_bits binary64 0xc320_0000_0000_0000) (of_bits binary64 0xbff8_0000_0000_0000)

abbrev pub regrouped : Dual3 → Dual3
regrouped x = dual3_sub (dual3_div_float x float.three) (dual3_div_float (dual3_mul x (dual3_mul x x)) float.thirty)

-- the values of document 02
unfoldable pub wishes : List Claim
wishes =
    -- wish 4: the float nearest -0.2
    claim (to_bits binary64 (round binary64 true 1 5) ∷ []) (0xbfc9_9999_9999_999a ∷ [])
    -- sph_j1 of `Dual3` (0, 1, 0, 0), whatever sine and cosine are supplied, has no third derivative; sph_j1_series has that float
    ∷ claim (dual3_words (apply.apply_of dual3_algebra 3 dual3_centre (SphJ1 five five))) (0 ∷ 0 ∷ 0x3fd5_5555_5555_5555 ∷ 0 ∷ 0 ∷ [])
    ∷ claim (dual3_words (apply.apply_of dual3_algebra 3 dual3_centre (SphJ1Series five five))) (0 ∷ 0 ∷ 0x3fd5_5555_5555_5555 ∷ 0 ∷ 0xbfc9_9999_9999_999a ∷ [])
    -- eps1eps2eps3 of `HyperHyperDual` (0; 1, 1, 1; 0, 0, 0; 0) is that float too
    ∷ claim (hyper_hyper_dual_words (apply.apply_of hyper_hyper_dual_algebra 3 hyper_hyper_dual_centre (SphJ1Series five five)))
    (0 ∷ 0 ∷ 0x3fd5_5555_5555_5555 ∷ 0x3fd5_5555_5555_5555 ∷ 0x3fd5_5555_5555_5555 ∷ 0 ∷ 0 ∷ 0 ∷ 0xbfc9_9999_9999_999a ∷ [])
    -- the cube is (x * x) * x: the v3 of a tie, and what x * (x * x) would make of it
    ∷ claim (words ((apply.cubic_j1 dual3_algebra dual3_tie).v3 ∷ (regrouped dual3_tie).v3 ∷ [])) (0xbfd9_9999_9999_999b ∷ 0xbfd9_9999_9999_999a ∷ [])
    -- the other records have no third derivative: 2
    ∷ claim (dual_words (apply.apply_of dual_algebra 1 (dual float.zero float.one) (SphJ1Series five five))) (2 ∷ [])
    ∷ []
