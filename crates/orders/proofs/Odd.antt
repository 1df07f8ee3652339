-- Odd numbers, by counting and by the remainder. Assumes nothing.
use Prim.Native.Nat.{ℕ, zero, suc, ◌%◌, ◌<◌}
use mathlib.Core.Path.{◌≡◌, refl, ap, ◌∙◌}
use mathlib.Core.Bool.{not}
use native.Mathlib.Nat.{suc-mod, mod-lt}
use native.Mathlib.Omega.{arith}
use lib.Dec.{eqb}
use Rattle.orders.specs.Order.{is_odd}

odd_next : (k : ℕ) → k < 2 → eqb (suc k % 2) 1 ≡ not (eqb k 1)
odd_next zero h = refl
odd_next (suc zero) h = refl
odd_next (suc (suc k)) h = absurd (omega arith)

pub odd_mod : (s : ℕ) → eqb (s % 2) 1 ≡ is_odd s
unfolding is_odd
odd_mod zero = refl
odd_mod (suc s) = ap (λ (k : ℕ). eqb k 1) (suc-mod s 2) ∙ odd_next (s % 2) (mod-lt s (omega arith)) ∙ ap not (odd_mod s)
