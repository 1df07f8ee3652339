-- From the whole root to the whole number nearest to the root. Nothing here is about floats. Assumes nothing.
use mathlib.Core.Path.{◌≡◌, subst}
use mathlib.Core.Logic.{inl, inr}
use Prim.Native.Nat.{ℕ, zero, suc, ◌+◌, ◌*◌, ◌^◌, ◌≤◌, ◌<◌}
use native.Mathlib.Nat.{eq-or-lt_of_le}
use native.Mathlib.Omega.{arith}
use Rattle.real.proofs.Squares.{square_suc}

-- The whole number nearest to the root of n: the whole root where what is left is at most it, else one more.
pub stays : (n q rest : ℕ) → q * q + rest ≡ n → 0 < n → rest ≤ q → (q * q < n + q) × (n ≤ q * q + q)
stays n zero rest e p h = absurd (nothing e)
  where
    nothing : 0 * 0 + rest ≡ n → ⊥
    nothing g = omega arith
stays n (suc k) rest e p h = (omega arith, omega arith)

pub moves : (n q rest : ℕ) → q * q + rest ≡ n → rest ≤ 2 * q → q < rest → ((q + 1) * (q + 1) < n + (q + 1)) × (n ≤ (q + 1) * (q + 1) + (q + 1))
moves n q rest e l h = (omega (arith, square_suc q), omega (arith, square_suc q))

-- it has no more digits than the whole root
pub no_carry : (a q rest : ℕ) → q * q + rest ≡ a * 2 ^ 52 → q < rest → q < 2 ^ 53 → a + 1 < 2 ^ 54 → q + 1 < 2 ^ 53
no_carry a q rest e h l k = elim (eq-or-lt_of_le l) [
  | inl z ↦
      let last : q ≡ 9007199254740991 = omega arith in
      absurd (clash (subst (λ (x : ℕ). x * x + rest ≡ a * 2 ^ 52) last e) (subst (λ (x : ℕ). x < rest) last h))
  | inr g ↦ below g
]
  where
    clash : 9007199254740991 * 9007199254740991 + rest ≡ a * 2 ^ 52 → 9007199254740991 < rest → ⊥
    clash s t = omega arith

    below : suc q < 2 ^ 53 → q + 1 < 2 ^ 53
    below g = omega arith
