-- The matrix of some numbers, float by float: its real parts stand where `place_of` says, all others are zero. Assumes nothing.
use Prim.Native.Nat.{ℕ, suc, ◌+◌, ◌*◌, ◌/◌, ◌%◌, ◌<◌, ◌≤◌}
use mathlib.Core.Path.{◌≡◌, ap, ◌∙◌}
use mathlib.Core.Bool.{Bool, false}
use mathlib.Core.List.{List}
use native.Mathlib.Nat.{mul-add-mod_self_right, mul-add-div_right, mod-eq_of_lt, div-eq_of_lt, mul-le-mul_right}
use native.Mathlib.Omega.{arith}
use lib.ListN.{length, get_or}
use lib.Ieee.{Float}
use borrow.Author.Tests.{eq-eqb, ne_eqb}
use Rattle.real.specs.Operations as float
use Rattle.algebra.proofs.Flat.{tabulate_length, tabulate_at}
use Rattle.market.specs.Format.{real_at}
use Rattle.market.specs.Entries.{place_of, float_of, matrix_of}
use Rattle.market.proofs.Places.{turned, first_rest, first_record, first_inside}

module _ (w : ℕ) (symmetric : Bool) (n : ℕ) (l : List Float) where
  pub matrix_length : length (matrix_of w symmetric n l) ≡ n * n * w
  unfolding matrix_of
  matrix_length = tabulate_length (float_of w symmetric n l) (n * n * w) 0

  pub matrix_at : (j : ℕ) → j < n * n * w → get_or (matrix_of w symmetric n l) j float.zero ≡ float_of w symmetric n l j
  unfolding matrix_of
  matrix_at j h = tabulate_at (float_of w symmetric n l) (n * n * w) 0 j float.zero h ∙ ap (float_of w symmetric n l) (let z : 0 + j ≡ j = omega arith in z)

  pub float_real : (j : ℕ) → j % w ≡ 0 → float_of w symmetric n l j ≡ get_or l (place_of symmetric n (j / w / n) (j / w % n)) float.zero
  unfolding float_of
  float_real j e = rw (eq-eqb (j % w) 0 e)

  pub float_other : (j : ℕ) → (j % w ≡ 0 → ⊥) → float_of w symmetric n l j ≡ float.zero
  unfolding float_of
  float_other j e = rw (ne_eqb (j % w) 0 e)

  -- the real part at row r, column c
  module _ (positive : 0 < w) (r c : ℕ) (row : r < n) (column : c < n) where
    cell_inside : r * n + c < n * n
    cell_inside =
        let below : suc r * n ≤ n * n = mul-le-mul_right n row in
        let next : suc r * n ≡ r * n + n = omega arith in
        omega arith

    cell_row : (r * n + c) / n ≡ r
    cell_row = mul-add-div_right (omega arith) r c ∙ ap (λ (x : ℕ). r + x) (div-eq_of_lt column) ∙ (let z : r + 0 ≡ r = omega arith in z)

    cell_column : (r * n + c) % n ≡ c
    cell_column = mul-add-mod_self_right r n c ∙ mod-eq_of_lt column

    pub real_at_lem : real_at w n (matrix_of w symmetric n l) r c ≡ get_or l (place_of symmetric n r c) float.zero
    real_at_lem =
        let i = r * n + c in
        matrix_at (i * w) (first_inside w positive i (n * n) cell_inside)
        ∙ float_real (i * w) (first_rest w positive i)
        ∙ ap (λ (k : ℕ). get_or l (place_of symmetric n (k / n) (k % n)) float.zero) (first_record w positive i)
        ∙ (λ k. get_or l (place_of symmetric n (cell_row k) (cell_column k)) float.zero)

-- a real part where every entry is given
pub float_general : (w n : ℕ) (l : List Float) (j : ℕ) → j % w ≡ 0 → float_of w false n l j ≡ get_or l (turned n (j / w)) float.zero
unfolding place_of
float_general w n l j e = float_real w false n l j e
