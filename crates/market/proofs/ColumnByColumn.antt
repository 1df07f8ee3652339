-- Where the entries of a text stand, column by column: each column begins where the one before it ends, by induction over the columns. Assumes nothing.
use Prim.Native.Nat.{ℕ, zero, suc, ◌+◌, ◌-◌, ◌*◌, ◌/◌, ◌<◌, ◌≤◌}
use mathlib.Core.Path.{◌≡◌, refl, sym, ap, ◌∙◌}
use mathlib.Core.Bool.{Bool, true, false}
use mathlib.Core.List.{List, ◌∷◌, ◌++◌}
use native.Mathlib.Nat.{mul-le-mul_left}
use native.Mathlib.Decide.{ℕ_discrete}
use native.Mathlib.Omega.{arith}
use lib.ListN.{length, get_or, drop, drop_of_length-le, get_or-append}
use lib.Seq.{drop-cons, get_or-append-add}
use lib.Ieee.{Float}
use borrow.Author.Tests.{le-leb}
use Rattle.real.specs.Operations as float
use Rattle.market.specs.Format.{count_of, column_from, first_row, columns_from}
use Rattle.market.specs.Entries.{place_of}

-- ---- half of c * (c + 1)
triangle_next : (c : ℕ) → (c + 1) * (c + 1 + 1) / 2 ≡ c * (c + 1) / 2 + (c + 1)
triangle_next c = let p : (c + 1) * (c + 1 + 1) ≡ c * (c + 1) + 2 * (c + 1) = omega arith in omega arith

triangle_twice : (c : ℕ) → c * (c + 1) / 2 * 2 ≡ c * (c + 1)
triangle_twice zero = omega arith
triangle_twice (suc c) = let before = triangle_twice c in let p : suc c * (suc c + 1) ≡ c * (c + 1) + 2 * (c + 1) = omega arith in omega arith

triangle_below : (n c : ℕ) → c ≤ n → c * (c + 1) / 2 ≤ c * n + c
triangle_below n c h = let p : c * (c + 1) ≤ c * (n + 1) = mul-le-mul_left c (omega arith) in let q : c * (n + 1) ≡ c * n + c = omega arith in omega arith

-- ---- where a column begins
abbrev pub start : Bool → ℕ → ℕ → ℕ
start symmetric n c = place_of symmetric n (first_row symmetric c) c

module _ (n c : ℕ) where
  -- entries of a column follow each other
  pub place_follows : (symmetric : Bool) (r : ℕ) → c ≤ n → first_row symmetric c ≤ r → place_of symmetric n r c ≡ start symmetric n c + (r - first_row symmetric c)
  unfolding place_of
  place_follows true r few below = let t = triangle_below n c few in rw (le-leb c r below, le-leb c c (omega arith)) (omega arith)
  place_follows false r few below = omega arith

  -- and columns too
  pub start_next : (symmetric : Bool) → c < n → start symmetric n (c + 1) ≡ start symmetric n c + (n - first_row symmetric c)
  unfolding place_of
  start_next true inside =
      let t = triangle_below n c (omega arith) in
      let u = triangle_next c in
      let p : (c + 1) * n ≡ c * n + n = omega arith in
      rw (le-leb c c (omega arith), le-leb (c + 1) (c + 1) (omega arith)) (omega arith)
  start_next false inside = let p : (c + 1) * n ≡ c * n + n = omega arith in omega arith

-- the first begins at 0, the one after the last where the entries end
pub start_first : (symmetric : Bool) (n : ℕ) → start symmetric n 0 ≡ 0
unfolding place_of
start_first true n = omega arith
start_first false n = omega arith

pub start_end : (symmetric : Bool) (n : ℕ) → start symmetric n n ≡ count_of symmetric n
unfolding place_of count_of
start_end true n = let t = triangle_twice n in let p : n * (n + 1) ≡ n * n + n = omega arith in rw (le-leb n n (omega arith)) (omega arith)
start_end false n = omega arith

-- a later column begins later
pub start_later : (symmetric : Bool) (n d c m : ℕ) → c + d ≡ m → m ≤ n → start symmetric n c ≤ start symmetric n m
start_later symmetric n zero c m h inside = let e : c ≡ m = omega arith in let k = ap (start symmetric n) e in omega arith
start_later symmetric n (suc d) c m h inside = let k = start_next n c symmetric (omega arith) in let later = start_later symmetric n d (c + 1) m (omega arith) inside in omega arith

-- ---- the entries of a matrix, listed
module _ (symmetric : Bool) (n : ℕ) (at : ℕ → ℕ → Float) where
  -- how many there are
  column_length : (d r c : ℕ) → length (column_from at c r d) ≡ d
  unfolding column_from
  column_length zero r c = refl
  column_length (suc d) r c = ap suc (column_length d (r + 1) c)

  -- entry number k of a column
  column_at : (d r c k : ℕ) → k < d → get_or (column_from at c r d) k float.zero ≡ at (r + k) c
  unfolding column_from
  column_at (suc d) r c zero h = ap (λ (i : ℕ). at i c) (let z : r ≡ r + 0 = omega arith in z)
  column_at (suc d) r c (suc k) h = column_at d (r + 1) c k (omega arith) ∙ ap (λ (i : ℕ). at i c) (let z : r + 1 + k ≡ r + suc k = omega arith in z)
  column_at zero r c k h = absurd (omega arith)

  in_column : (c r k : ℕ) (rest : List Float) → first_row symmetric c ≤ r → r < n → k ≡ r - first_row symmetric c → get_or (column_from at c (first_row symmetric c) (n - first_row symmetric c) ++ rest) k float.zero ≡ at r c
  in_column c r k rest below row place =
      let first = first_row symmetric c in
      let long = column_length (n - first) first c in
      get_or-append (column_from at c first (n - first)) rest float.zero k (omega arith)
      ∙ column_at (n - first) first c k (omega arith)
      ∙ ap (λ (i : ℕ). at i c) (let z : first + k ≡ r = omega arith in z)

  -- the entry at row r, column m, among d columns from column c on
  columns_at : (d c r m k : ℕ) → c + d ≡ n → c ≤ m → m < n → first_row symmetric m ≤ r → r < n → start symmetric n c + k ≡ start symmetric n m + (r - first_row symmetric m)
      → get_or (columns_from symmetric n at c d) k float.zero ≡ at r m
  unfolding columns_from
  columns_at zero c r m k all here inside below row place = absurd (omega arith)
  columns_at (suc d) c r m k all here inside below row place = by (ℕ_discrete c m) (λ i. columns_at d (c + 1) r m i)
    where
      after : List Float
      after = columns_from symmetric n at (c + 1) d

      by : Dec (c ≡ m)
          → ((i : ℕ) → c + 1 + d ≡ n → c + 1 ≤ m → m < n → first_row symmetric m ≤ r → r < n → start symmetric n (c + 1) + i ≡ start symmetric n m + (r - first_row symmetric m) → get_or after i float.zero ≡ at r m)
          → get_or (column_from at c (first_row symmetric c) (n - first_row symmetric c) ++ after) k float.zero ≡ at r m
      by (yes e) more =
          let same = ap (start symmetric n) e in
          let first = ap (first_row symmetric) e in
          in_column c r k after (omega arith) row (omega arith) ∙ ap (at r) e
      by (no e) more =
          let first = first_row symmetric c in
          let column = column_from at c first (n - first) in
          let long = column_length (n - first) first c in
          let next = start_next n c symmetric (omega arith) in
          let later = start_later symmetric n (m - (c + 1)) (c + 1) m (omega arith) (omega arith) in
          ap (λ (i : ℕ). get_or (column ++ after) i float.zero) (let z : k ≡ length column + (k - (n - first)) = omega arith in z)
          ∙ get_or-append-add column after (k - (n - first)) float.zero
          ∙ more (k - (n - first)) (omega arith) (omega arith) inside below row (omega arith)

  -- the entry at row r, column c is number place_of of all
  pub listed_at : (r c : ℕ) → c < n → first_row symmetric c ≤ r → r < n → get_or (columns_from symmetric n at 0 n) (place_of symmetric n r c) float.zero ≡ at r c
  listed_at r c inside below row =
      let follows = place_follows n c symmetric r (omega arith) below in
      let first = start_first symmetric n in
      columns_at n 0 r c (place_of symmetric n r c) (omega arith) (omega arith) inside below row (omega arith)

-- ---- a list of as many numbers, listed from where they stand, is itself
module _ (symmetric : Bool) (n : ℕ) (numbers : List Float) (count : length numbers ≡ count_of symmetric n) (at : ℕ → ℕ → Float)
    (placed : (r c : ℕ) → c < n → first_row symmetric c ≤ r → r < n → at r c ≡ get_or numbers (place_of symmetric n r c) float.zero) where
  column_back : (d r c : ℕ) (rest : List Float) → c < n → first_row symmetric c ≤ r → r + d ≡ n → rest ≡ drop (start symmetric n (c + 1)) numbers → column_from at c r d ++ rest ≡ drop (place_of symmetric n r c) numbers
  unfolding column_from
  column_back zero r c rest inside below all same =
      let follows = place_follows n c symmetric r (omega arith) below in
      let next = start_next n c symmetric inside in
      same ∙ ap (λ (i : ℕ). drop i numbers) (let z : start symmetric n (c + 1) ≡ place_of symmetric n r c = omega arith in z)
  column_back (suc d) r c rest inside below all same =
      let follows = place_follows n c symmetric r (omega arith) below in
      let next-follows = place_follows n c symmetric (r + 1) (omega arith) (omega arith) in
      let next = start_next n c symmetric inside in
      let later = start_later symmetric n (n - (c + 1)) (c + 1) n (omega arith) (omega arith) in
      let end = start_end symmetric n in
      (λ i. placed r c inside below (omega arith) i ∷ column_back d (r + 1) c rest inside (omega arith) (omega arith) same i)
      ∙ ap (λ (i : ℕ). get_or numbers (place_of symmetric n r c) float.zero ∷ drop i numbers) (let z : place_of symmetric n (r + 1) c ≡ suc (place_of symmetric n r c) = omega arith in z)
      ∙ sym (drop-cons numbers (place_of symmetric n r c) float.zero (omega arith))

  columns_back : (d c : ℕ) → c + d ≡ n → columns_from symmetric n at c d ≡ drop (start symmetric n c) numbers
  unfolding columns_from
  columns_back zero c all =
      let e : c ≡ n = omega arith in
      let end = ap (start symmetric n) e ∙ start_end symmetric n in
      sym (drop_of_length-le numbers {i = start symmetric n c} (omega arith))
  columns_back (suc d) c all =
      column_back (n - first_row symmetric c) (first_row symmetric c) c (columns_from symmetric n at (c + 1) d) (omega arith) (omega arith) (first_inside symmetric) (columns_back d (c + 1) (omega arith))
    where
      first_inside : (s : Bool) → first_row s c + (n - first_row s c) ≡ n
      first_inside true = omega arith
      first_inside false = omega arith

  pub listed_back : columns_from symmetric n at 0 n ≡ numbers
  listed_back = columns_back n 0 (omega arith) ∙ ap (λ (i : ℕ). drop i numbers) (start_first symmetric n)
