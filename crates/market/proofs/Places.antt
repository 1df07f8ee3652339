-- Where the entries stand: column by column in a text, row by row in a matrix, and the one order turned twice is itself. Assumes nothing.
use Prim.Native.Nat.{ℕ, suc, ◌+◌, ◌*◌, ◌/◌, ◌%◌, ◌<◌, ◌≤◌}
use mathlib.Core.Path.{◌≡◌, ap, ◌∙◌}
use native.Mathlib.Nat.{mul-add-mod_self_right, mul-add-div_right, mod-eq_of_lt, div-eq_of_lt, mod-lt, div-add-mod', div-lt_iff_lt-mul, mul-le-mul_right}
use native.Mathlib.Omega.{arith}

-- which entry of the other order stands where entry k of the one does
abbrev pub turned : ℕ → ℕ → ℕ
turned n k = k % n * n + k / n

module _ (n k : ℕ) (inside : k < n * n) where
  some : 0 < n
  some = let other : n ≡ 0 → ⊥ = (λ e. let z : n * n ≡ 0 * 0 = (λ i. e i * e i) in omega arith) in omega arith

  outer : k / n < n
  outer = (div-lt_iff_lt-mul some).1 inside

  pub turned_inside : turned n k < n * n
  turned_inside =
      let q = outer in
      let r : suc (k % n) * n ≤ n * n = mul-le-mul_right n (mod-lt k some) in
      let d : suc (k % n) * n ≡ k % n * n + n = omega arith in
      omega arith

  pub turned_back : turned n (turned n k) ≡ k
  turned_back =
      let rest : turned n k % n ≡ k / n = mul-add-mod_self_right (k % n) n (k / n) ∙ mod-eq_of_lt outer in
      let part : turned n k / n ≡ k % n = mul-add-div_right some (k % n) (k / n) ∙ ap (λ (x : ℕ). k % n + x) (div-eq_of_lt outer) ∙ (let z : k % n + 0 ≡ k % n = omega arith in z) in
      (λ i. rest i * n + part i) ∙ div-add-mod' k n

-- record number i begins at i * w
module _ (w : ℕ) (some : 0 < w) (i : ℕ) where
  pub first_rest : i * w % w ≡ 0
  first_rest = ap (λ (x : ℕ). x % w) (let z : i * w ≡ i * w + 0 = omega arith in z) ∙ mul-add-mod_self_right i w 0 ∙ mod-eq_of_lt some

  pub first_record : i * w / w ≡ i
  first_record =
      ap (λ (x : ℕ). x / w) (let z : i * w ≡ i * w + 0 = omega arith in z)
      ∙ mul-add-div_right some i 0 ∙ ap (λ (x : ℕ). i + x) (div-eq_of_lt some) ∙ (let z : i + 0 ≡ i = omega arith in z)

  pub first_inside : (m : ℕ) → i < m → i * w < m * w
  first_inside m h =
      let g : suc i * w ≤ m * w = mul-le-mul_right w h in
      let d : suc i * w ≡ i * w + w = omega arith in
      omega arith

-- and a real part is the first float of its record
pub first_of : (w j : ℕ) → j % w ≡ 0 → j / w * w ≡ j
first_of w j e = (let z : j / w * w ≡ j / w * w + j % w = omega arith in z) ∙ div-add-mod' j w
