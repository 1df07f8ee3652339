-- The matrix that a text is read to holds its numbers column by column, and no other does: so that the format alone says what is read. Assumes nothing.
use Prim.Native.Nat.{ℕ, ◌*◌, ◌/◌, ◌%◌, ◌<◌, ◌≤◌}
use mathlib.Core.Path.{◌≡◌, refl, sym, ap, ◌∙◌, subst}
use mathlib.Core.Bool.{Bool, true, false, cond}
use mathlib.Core.List.{List}
use native.Mathlib.Nat.{div-lt_iff_lt-mul, mod-lt, div-add-mod'}
use native.Mathlib.Decide.{ℕ_discrete}
use native.Mathlib.Omega.{arith}
use lib.Dec.{leb}
use lib.ListN.{length, get_or}
use lib.Seq.{ext_get_or}
use lib.Ieee.{Float}
use borrow.Author.Tests.{leb-true, leb-false}
use Rattle.real.specs.Operations as float
use Rattle.algebra.specs.Outcome.{value}
use Rattle.market.specs.Answers.{answered}
use Rattle.market.specs.Format.{Market, Holds, count_of, first_row, real_at}
use Rattle.market.specs.Entries.{lower_place, place_of, float_of, matrix_of}
use Rattle.market.specs.Read.{read_left}
use Rattle.market.proofs.Places.{first_of}
use Rattle.market.proofs.ColumnByColumn.{listed_at, listed_back}
use Rattle.market.proofs.MatrixAt.{matrix_length, matrix_at, float_real, float_other, real_at_lem}
use Rattle.market.proofs.ReadsFormat.{market_read}
use Rattle.market.proofs.FormatRead.{Reading, read_market}

-- above the diagonal stands what stands below it
place_mirrored : (n r c : ℕ) → place_of true n r c ≡ place_of true n c r
unfolding place_of
place_mirrored n r c = by (leb c r) (leb r c) refl refl
  where
    by : (x y : Bool) → leb c r ≡ x → leb r c ≡ y → cond x (lower_place n r c) (lower_place n c r) ≡ cond y (lower_place n c r) (lower_place n r c)
    by true false p q = refl
    by false true p q = refl
    by true true p q = let below = leb-true c r p in let above = leb-true r c q in let e : r ≡ c = omega arith in (λ i. lower_place n (e i) (sym e i))
    by false false p q = let below = leb-false c r p in let above = leb-false r c q in absurd (omega arith)

module _ (w : ℕ) (positive : 0 < w) (symmetric : Bool) (n : ℕ) (numbers : List Float) where
  pub matrix_holds : length numbers ≡ count_of symmetric n → Holds w symmetric n numbers (matrix_of w symmetric n numbers)
  matrix_holds count = record {
    long = matrix_length w symmetric n numbers;
    columns = listed_back symmetric n numbers count (real_at w n (matrix_of w symmetric n numbers)) (λ r c column below row. real_at_lem w symmetric n numbers positive r c row column);
    mirrored = λ e r c row column.
        real_at_lem w symmetric n numbers positive r c row column
        ∙ ap (λ (p : ℕ). get_or numbers p float.zero) (subst (λ (s : Bool). place_of s n r c ≡ place_of s n c r) (sym e) (place_mirrored n r c))
        ∙ sym (real_at_lem w symmetric n numbers positive c r column row);
    slopes = λ j inside other. matrix_at w symmetric n numbers j inside ∙ float_other w symmetric n numbers j other;
  }

  module _ (a : List Float) (holds : Holds w symmetric n numbers a) where
    -- on the side that the text gives
    listed : (r c : ℕ) → c < n → first_row symmetric c ≤ r → r < n → real_at w n a r c ≡ get_or numbers (place_of symmetric n r c) float.zero
    listed r c column below row = sym (listed_at symmetric n (real_at w n a) r c column below row) ∙ ap (λ (l : List Float). get_or l (place_of symmetric n r c) float.zero) holds.columns

    -- and on the other
    real_is : (s : Bool) → symmetric ≡ s → (r c : ℕ) → r < n → c < n → real_at w n a r c ≡ get_or numbers (place_of symmetric n r c) float.zero
    real_is false e r c row column = listed r c column (subst (λ (s : Bool). first_row s c ≤ r) (sym e) (omega arith)) row
    real_is true e r c row column = by (leb c r) refl
      where
        by : (t : Bool) → leb c r ≡ t → real_at w n a r c ≡ get_or numbers (place_of symmetric n r c) float.zero
        by true p = listed r c column (subst (λ (s : Bool). first_row s c ≤ r) (sym e) (leb-true c r p)) row
        by false p =
            let above = leb-false c r p in
            holds.mirrored e r c row column
            ∙ listed c r row (subst (λ (s : Bool). first_row s r ≤ c) (sym e) (omega arith)) column
            ∙ ap (λ (i : ℕ). get_or numbers i float.zero) (subst (λ (s : Bool). place_of s n c r ≡ place_of s n r c) (sym e) (place_mirrored n c r))

    float_is : (j : ℕ) → j < n * n * w → get_or a j float.zero ≡ float_of w symmetric n numbers j
    float_is j inside = by (ℕ_discrete (j % w) 0)
      where
        cell : j / w < n * n
        cell = (div-lt_iff_lt-mul positive).1 inside

        some : 0 < n
        some = let other : n ≡ 0 → ⊥ = (λ e. let z : n * n ≡ 0 * 0 = (λ i. e i * e i) in omega (arith, cell)) in omega arith

        by : Dec (j % w ≡ 0) → get_or a j float.zero ≡ float_of w symmetric n numbers j
        by (yes e) =
            ap (λ (i : ℕ). get_or a i float.zero) (sym (ap (λ (k : ℕ). k * w) (div-add-mod' (j / w) n) ∙ first_of w j e))
            ∙ real_is symmetric refl (j / w / n) (j / w % n) ((div-lt_iff_lt-mul some).1 cell) (mod-lt (j / w) some)
            ∙ sym (float_real w symmetric n numbers j e)
        by (no e) = holds.slopes j inside e ∙ sym (float_other w symmetric n numbers j e)

    -- no second matrix holds the numbers
    pub holds_one : a ≡ matrix_of w symmetric n numbers
    holds_one =
        ext_get_or float.zero a (matrix_of w symmetric n numbers) (holds.long ∙ sym (matrix_length w symmetric n numbers))
        (λ j h. let inside : j < n * n * w = omega (arith, holds.long) in float_is j inside ∙ sym (matrix_at w symmetric n numbers j inside))

-- a text of the format is read to the matrix that holds its numbers
pub holds_read : (w : ℕ) → 0 < w → (symmetric : Bool) (n : ℕ) (numbers : List Float) (text : List ℕ) (a out : List Float) → Market false symmetric n numbers text → Holds w symmetric n numbers a → length out ≡ n * n * w
    → read_left w text out ≡ answered (value n) a
holds_read w positive symmetric n numbers text a out market holds room =
    market_read w symmetric n numbers text market out room ∙ ap (answered (value n)) (sym (holds_one w positive symmetric n numbers a holds))

-- and whatever is read is such a text, and what is left holds its numbers
pub read_holds : (w : ℕ) → 0 < w → (text : List ℕ) (out : List Float) (n : ℕ) (left : List Float) → read_left w text out ≡ answered (value n) left → (reading : Reading w text out n left) × Holds w reading.symmetric n reading.numbers left
read_holds w positive text out n left e =
    let reading = read_market w text out n left e in
    (reading, subst (Holds w reading.symmetric n reading.numbers) (sym reading.matrix) (matrix_holds w positive reading.symmetric n reading.numbers reading.market.count))
