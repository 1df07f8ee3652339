-- Places of a square matrix in flat floats: all that is not linear in the indices of the code. Assumes nothing.
use Prim.Native.Nat.{ℕ, ◌+◌, ◌*◌, ◌/◌, ◌≤◌, ◌<◌}
use mathlib.Core.Path.{◌≡◌, ap, ◌∙◌}
use mathlib.Core.List.{List}
use native.Mathlib.Nat.{mul-le-mul_right, mul-le-mul, mul_assoc, add-mul, mul-div_cancel}
use native.Mathlib.Omega.{arith}
use lib.ListN.{length, get_or}
use lib.Ieee.{Float}
use Rattle.real.specs.Operations as float
use Rattle.refusals.specs.Largest as largest
use Rattle.algebra.specs.Algebra.{reals}
use Rattle.algebra.specs.Flat.{real_parts}
use Rattle.algebra.proofs.Flat.{tabulate_at}
use Rattle.matrices.specs.Matrix.{Square, RowPlace, cell}
use Rattle.matrices.specs.Solve.{Strided}

-- row r and column c are one of the n * n places
pub place : (n r c : ℕ) → r < n → c < n → r * n + c < n * n
place n r c hr hc = omega (arith, mul-le-mul_right n hr)

-- a row is n of them
pub row_there : (n r : ℕ) → r < n → r * n + n ≤ n * n
row_there n r h = omega (arith, mul-le-mul_right n h)

-- record p of the n * n lies whole in the floats
pub flat_place : (w m p : ℕ) → p < m → p * w + w ≤ m * w
flat_place w m p h = omega (arith, mul-le-mul_right w h)

-- the record at row r and column c, by the floats of a row
pub flat_row : (w n r c : ℕ) → (r * n + c) * w ≡ r * (n * w) + c * w
flat_row w n r c = add-mul (r * n) c w ∙ ap (λ (k : ℕ). k + c * w) (mul_assoc r n w)

-- the record at row r and column c lies whole in the floats
pub record Inside (w n r c : ℕ) (l : List Float) : Type 0 where
  pub row : r * n ≤ largest.n * largest.n
  pub there : (r * n + c) * w + w ≤ length l

pub inside : (w n r c : ℕ) (l : List Float) → Square w n l → r < n → c < n → Inside w n r c l
inside w n r c l s hr hc =
    let z = s.small in
    let h : r ≤ largest.n = omega arith in
    record { row = mul-le-mul h z; there = omega (arith, flat_place w (n * n) (r * n + c) (place n r c hr hc), s.full) }

-- a row of a square matrix
pub row_place : (w n i : ℕ) (l : List Float) → Square w n l → i < n → RowPlace w n i l
row_place w n i l s h =
    let z = s.small in
    let b : i ≤ largest.n = omega arith in
    record { small = z; below = h; start = mul-le-mul b z; whole = omega (arith, mul-le-mul_right w (row_there n i h), s.full) }

-- and of floats of the same length
pub row_place_kept : (w n i : ℕ) (l l' : List Float) → Square w n l → length l' ≡ length l → i < n → RowPlace w n i l'
row_place_kept w n i l l' s e h = row_place w n i l' (record { small = s.small; some = s.some; narrow = s.narrow; full = e ∙ s.full }) h

-- row r lies whole in the floats
pub row_inside : (w n : ℕ) (l : List Float) (r : ℕ) → Square w n l → r < n → r * (n * w) + n * w ≤ length l
row_inside w n l r s h =
    let m = mul-le-mul_right (n * w) h in
    let e = mul_assoc n n w in
    let f = s.full in
    omega arith

-- no product of the code is large
pub record Few (w n : ℕ) : Type 0 where
  pub square : n * n ≤ largest.n * largest.n
  pub row : n * w ≤ largest.n * largest.width
  pub all : n * n * w ≤ largest.n * largest.n * largest.width

pub few : (w n : ℕ) → n ≤ largest.n → w ≤ largest.width → Few w n
few w n h k = record { square = mul-le-mul h h; row = mul-le-mul h k; all = mul-le-mul (mul-le-mul h h) k }

-- the real part at row r and column c, in the floats
pub real_cell : (w n : ℕ) (l : List Float) (r c : ℕ) → Square w n l → r < n → c < n
    → (r * (n * w) + c * w < length l) × (cell reals n (real_parts w l) r c ≡ get_or l (r * (n * w) + c * w) float.zero)
unfolding cell real_parts
real_cell w n l r c s hr hc =
    let e = flat_row w n r c in
    let f = s.full in
    let z = s.some in
    let p = place n r c hr hc in
    let t = flat_place w (n * n) (r * n + c) p in
    let k : length l / w ≡ n * n = ap (λ (m : ℕ). m / w) s.full ∙ mul-div_cancel (n * n) s.some in (
      omega arith,
      tabulate_at (λ q. get_or l (q * w) float.zero) (length l / w) 0 (r * n + c) float.zero (omega arith)
          ∙ ap (λ (q : ℕ). get_or l (q * w) float.zero) (omega arith) ∙ ap (λ (q : ℕ). get_or l q float.zero) e,
    )

-- a vector lies as it lay in floats of the same length
pub strided_keep : {w n stride base : ℕ} {l : List Float} (l' : List Float) → length l' ≡ length l → Strided w n stride base l → Strided w n stride base l'
strided_keep l' e s = record { some = s.some; inside = λ i h. omega (arith, s.inside i h, e) }

-- a vector of n records, whole
pub strided_whole : (w n : ℕ) (l : List Float) → length l ≡ n * w → Strided w n 1 0 l
strided_whole w n l e = record { some = omega arith; inside = λ i h. let p : i * 1 + 0 ≡ i = omega arith in rw p (omega (arith, flat_place w n i h, e)) }

-- column j of a square matrix
pub strided_column : (w n j : ℕ) (l : List Float) → Square w n l → j < n → Strided w n n j l
strided_column w n j l s h = record { some = omega arith; inside = λ i b. (inside w n i j l s b h).there }

-- all of a vector, in floats of the same length
pub whole_kept : (w n : ℕ) (l l' : List Float) → length l ≡ n * w → length l' ≡ length l → Strided w n 1 0 l'
whole_kept w n l l' e f = strided_whole w n l' (f ∙ e)

-- a square matrix in floats of the same length
pub square_kept : (w n : ℕ) (l l' : List Float) → Square w n l → length l' ≡ length l → Square w n l'
square_kept w n l l' s e = record { small = s.small; some = s.some; narrow = s.narrow; full = e ∙ s.full }
