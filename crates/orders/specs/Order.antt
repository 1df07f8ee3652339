-- The order of the rows: when it is a permutation of 0..n-1, the test for that, and its parity. Definitions only.
use Rattle.std.specs.Prelude.{ℕ, zero, suc, ◌<◌, ◌≡◌, Bool, true, false, not, ◌&&◌, List, [], ◌∷◌, length, ltb, eqb}

-- P of every element
abbrev pub All : (ℕ → Type 0) → List ℕ → Type 0
All P [] = Unit {0}
All P (x ∷ l) = P x × All P l

-- no two are equal
abbrev pub Distinct : List ℕ → Type 0
Distinct [] = Unit {0}
Distinct (x ∷ l) = All (λ y. x ≡ y → ⊥) l × Distinct l

-- n different numbers below n
pub record Order (n : ℕ) (p : List ℕ) : Type 0 where
  pub size : length p ≡ n
  pub below : All (λ v. v < n) p
  pub apart : Distinct p

-- x is none of the list's
unfoldable pub absent : ℕ → List ℕ → Bool
absent x [] = true
absent x (y ∷ l) = not (eqb x y) && absent x l

-- every number is below n, and no two are equal
unfoldable pub is_order : ℕ → List ℕ → Bool
is_order n [] = true
is_order n (x ∷ l) = ltb x n && (absent x l && is_order n l)

-- one or the other, not both
abbrev pub differ : Bool → Bool → Bool
differ false b = b
differ true b = not b

-- whether an odd number of the list's elements are below x
unfoldable pub odd_below : ℕ → List ℕ → Bool
odd_below x [] = false
odd_below x (y ∷ l) = differ (ltb y x) (odd_below x l)

-- the parity: whether its inversions (an entry with a lesser one after it) are odd in number
unfoldable pub parity : List ℕ → Bool
parity [] = false
parity (x ∷ l) = differ (odd_below x l) (parity l)

unfoldable pub is_odd : ℕ → Bool
is_odd zero = false
is_odd (suc n) = not (is_odd n)
