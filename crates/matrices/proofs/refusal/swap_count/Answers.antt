-- Each way out is a case of the definition's two tests.
use Prim.Native.Nat.{ℕ, ◌%◌, ◌≤◌, ◌<◌}
use mathlib.Core.Path.{◌≡◌, refl}
use mathlib.Core.Bool.{Bool, true, false, not, beq}
use lib.Dec.{eqb}
use borrow.Author.Tests.{lt-ltb, le-ltb}
use Rattle.refusals.specs.Largest as largest
use Rattle.refusals.specs.Number as refusal
use Rattle.matrices.specs.Entries.{count_refusal}
use Rattle.orders.specs.Order.{differ}
use Rattle.orders.proofs.Odd.{odd_mod}
use Rattle.matrices.proofs.refusal.swap_count.Goals as goal
use Rattle.matrices.proofs.refusal.swap_count.Goals.{then-swaps-gt-LARGEST_SWAPS-via-then-swaps-gt-LARGEST_SWAPS, then-swaps-gt-LARGEST_SWAPS-via-else-swaps-gt-LARGEST_SWAPS+then-swaps-odd}

not_equal : (a b : Bool) → not (beq a b) ≡ differ a b
not_equal false false = refl
not_equal false true = refl
not_equal true false = refl
not_equal true true = refl

too_many : (s : ℕ) (odd : Bool) → largest.swaps < s → refusal.wrong_swaps ≡ count_refusal odd s
too_many s odd h = rw (lt-ltb largest.swaps s h) refl

module _ (s : ℕ) (odd : Bool) (h : s ≤ largest.swaps) where
  other_parity : not (beq (eqb (s % 2) 1) odd) ≡ true → refusal.wrong_swaps ≡ count_refusal odd s
  other_parity u = rw (le-ltb largest.swaps s h, ← odd_mod s, ← not_equal _ _, u) refl

  same_parity : not (beq (eqb (s % 2) 1) odd) ≡ false → 0 ≡ count_refusal odd s
  same_parity u = rw (le-ltb largest.swaps s h, ← odd_mod s, ← not_equal _ _, u) refl

pub returns-then-swaps-gt-LARGEST_SWAPS : goal.returns-then-swaps-gt-LARGEST_SWAPS
returns-then-swaps-gt-LARGEST_SWAPS c =
    elim c.then-swaps-gt-LARGEST_SWAPS.branch [
      | then-swaps-gt-LARGEST_SWAPS-via-then-swaps-gt-LARGEST_SWAPS w ↦ too_many _ _ w.if-swaps-gt-LARGEST_SWAPS.true
      | then-swaps-gt-LARGEST_SWAPS-via-else-swaps-gt-LARGEST_SWAPS+then-swaps-odd w ↦ other_parity _ _ w.if-swaps-gt-LARGEST_SWAPS.false w.if-swaps-odd.true
    ]

pub returns : goal.returns
returns c = same_parity _ _ c.if-swaps-gt-LARGEST_SWAPS.false c.if-swaps-odd.false
