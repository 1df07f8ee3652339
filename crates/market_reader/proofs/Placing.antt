-- Entries column by column placed row by row: record p of the matrix is stored at turn p, and zeros stand after it. Assumes nothing.
use Prim.Native.Nat.{ℕ, suc, ◌+◌, ◌*◌, ◌/◌, ◌%◌, ◌<◌, ◌≤◌}
use mathlib.Core.Path.{◌≡◌, refl, sym, ap, ◌∙◌}
use mathlib.Core.Bool.{Bool, true, false, cond}
use mathlib.Core.List.{List}
use native.Mathlib.Decide.{ℕ_discrete}
use native.Mathlib.Nat.{mul-le-mul_right, mul-add-mod_self_right, mul-add-div_right, mod-eq_of_lt, div-eq_of_lt, div-add-mod', div-lt_iff_lt-mul}
use native.Mathlib.Omega.{arith}
use lib.Dec.{ltb}
use lib.ListN.{get_or, set, length-set}
use lib.Seq.{ext_get_or, get_or-set_same, get_or-set_other}
use lib.Ieee.{Float, nan}
use borrow.Author.Tests.{lt-ltb, ltb-true, ltb-false, ne_eqb}
use Rattle.real.specs.Operations as float
use Rattle.algebra.specs.Flat.{tabulate}
use Rattle.algebra.proofs.Flat.{tabulate_length, tabulate_at}
use Rattle.matrices.specs.Matrix.{Square}
use Rattle.market.specs.Entries.{place_of, float_of, matrix_of}
use Rattle.market_reader.specs.Told.{PlacedUpTo}

-- ---- record p of the matrix, at row r and column c
module _ (w n r c : ℕ) (some : 0 < w) (row : r < n) (column : c < n) where
  positive : 0 < n
  positive = omega arith

  pub record_inside : r * n + c < n * n
  record_inside =
      let m : suc r * n ≤ n * n = mul-le-mul_right n row in
      let d : suc r * n ≡ r * n + n = omega arith in
      omega arith

  row_is : (r * n + c) / n ≡ r
  row_is = mul-add-div_right positive r c ∙ ap (λ (x : ℕ). r + x) (div-eq_of_lt column) ∙ (let z : r + 0 ≡ r = omega arith in z)

  column_is : (r * n + c) % n ≡ c
  column_is = mul-add-mod_self_right r n c ∙ mod-eq_of_lt column

multiple : (i w : ℕ) → 0 < w → (i * w % w ≡ 0) × (i * w / w ≡ i)
multiple i w some =
    let z : i * w ≡ i * w + 0 = omega arith in (
      ap (λ (x : ℕ). x % w) z ∙ mul-add-mod_self_right i w 0 ∙ mod-eq_of_lt some,
      ap (λ (x : ℕ). x / w) z ∙ mul-add-div_right some i 0 ∙ ap (λ (x : ℕ). i + x) (div-eq_of_lt some) ∙ (let y : i + 0 ≡ i = omega arith in y),
    )

module _ (w : ℕ) (s : Bool) (n : ℕ) (numbers : List Float) where
  -- its real part is the entry of that place
  real_is : (r c : ℕ) → 0 < w → r < n → c < n → get_or numbers (place_of s n r c) float.zero ≡ float_of w s n numbers ((r * n + c) * w)
  unfolding float_of
  real_is r c some row column =
      let m = multiple (r * n + c) w some in
      sym (rw (m.0, m.1, row_is w n r c some row column, column_is w n r c some row column) refl)

  -- its other parts are zero
  other_is : (j : ℕ) → (j % w ≡ 0 → ⊥) → float_of w s n numbers j ≡ float.zero
  unfolding float_of
  other_is j h = rw (ne_eqb (j % w) 0 h)

  -- one record more: at its first float the entry, nothing at the others
  module _ (r c : ℕ) (first : List Float) (square : Square w n first) (row : r < n) (column : c < n) where
    some : 0 < w
    some = square.some

    abbrev here : ℕ
    here = r * n + c

    -- at any other float the test of the record changes nothing
    module _ (j : ℕ) (elsewhere : j ≡ here * w → ⊥) where
      last_is : j / w ≡ here → float_of w s n numbers j ≡ float.zero
      last_is q = other_is j (λ z. elsewhere (sym (div-add-mod' j w) ∙ (λ i. q i * w + z i) ∙ (let y : here * w + 0 ≡ here * w = omega arith in y)))

      over_is : (t : Bool) → ltb (j / w) (r * n + (c + 1)) ≡ t → here ≤ j / w → float.zero ≡ cond t (float_of w s n numbers j) float.zero
      over_is true g h = let k : j / w < r * n + (c + 1) = ltb-true (j / w) (r * n + (c + 1)) g in sym (last_is (omega arith))
      over_is false g h = refl

      same_test : (t : Bool) → ltb (j / w) here ≡ t → cond t (float_of w s n numbers j) float.zero ≡ cond (ltb (j / w) (r * n + (c + 1))) (float_of w s n numbers j) float.zero
      same_test true g = let k : j / w < here = ltb-true (j / w) here g in ap (λ (t : Bool). cond t (float_of w s n numbers j) float.zero) (sym (lt-ltb (j / w) (r * n + (c + 1)) (omega arith)))
      same_test false g = over_is (ltb (j / w) (r * n + (c + 1))) refl (ltb-false (j / w) here g)

    pub placed_more : (place : ℕ) (x : Float) (out : List Float) → PlacedUpTo w s n numbers (r * n + c) out → place ≡ place_of s n r c → x ≡ get_or numbers place float.zero
        → PlacedUpTo w s n numbers (r * n + (c + 1)) (set out ((r * n + c) * w) x)
    placed_more place x out so_far e f = record {
      full = simp length-set so_far.full;
      each = λ j h. by j h (ℕ_discrete j (here * w));
    }
      where
        by : (j : ℕ) → j < n * n * w → Dec (j ≡ here * w) → get_or (set out (here * w) x) j nan ≡ cond (ltb (j / w) (r * n + (c + 1))) (float_of w s n numbers j) float.zero
        by j h (yes q) =
            ap (λ (i : ℕ). get_or (set out (here * w) x) i nan) q
            ∙ get_or-set_same out (here * w) x nan (omega (arith, so_far.full))
            ∙ (f ∙ ap (λ (i : ℕ). get_or numbers i float.zero) e ∙ real_is r c some row column)
            ∙ ap (λ (i : ℕ). float_of w s n numbers i) (sym q)
            ∙ ap (λ (t : Bool). cond t (float_of w s n numbers j) float.zero) (sym (lt-ltb (j / w) (r * n + (c + 1)) (let k : j / w ≡ here = ap (λ (i : ℕ). i / w) q ∙ (multiple here w some).1 in omega arith)))
        by j h (no q) = get_or-set_other out (here * w) j x nan q ∙ so_far.each j h ∙ same_test j q (ltb (j / w) here) refl

  -- all rows: the matrix
  pub placed_all : (r : ℕ) (first out : List Float) → Square w n first → PlacedUpTo w s n numbers (r * n) out → r ≤ n → n ≤ r → out ≡ matrix_of w s n numbers
  unfolding matrix_of
  placed_all r first out square here h g =
      let all : r * n ≡ n * n = ap (λ (x : ℕ). x * n) (let z : r ≡ n = omega arith in z) in
      ext_get_or nan out (tabulate (float_of w s n numbers) (n * n * w) 0) (here.full ∙ sym (tabulate_length (float_of w s n numbers) (n * n * w) 0))
      (λ k lt.
      let inside : k < n * n * w = omega (arith, here.full) in
      let below : k / w < n * n = (div-lt_iff_lt-mul square.some).1 inside in
      here.each k inside
      ∙ ap (λ (t : Bool). cond t (float_of w s n numbers k) float.zero) (lt-ltb (k / w) (r * n) (omega arith))
      ∙ ap (float_of w s n numbers) (let z : k ≡ 0 + k = omega arith in z)
      ∙ sym (tabulate_at (float_of w s n numbers) (n * n * w) 0 k nan inside))
