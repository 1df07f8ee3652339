-- A counted loop as a function. Definitions only.
use Rattle.std.specs.Prelude.{ℕ, zero, suc, ◌-◌}

module _ {S : Type 0} where
  -- d turns, from number k on
  unfoldable pub turns : (ℕ → S → S) → ℕ → ℕ → S → S
  turns f zero k s = s
  turns f (suc d) k s = turns f d (suc k) (f k s)

  -- for k in lo..hi { s = f(k, s) }
  unfoldable pub upto : ℕ → ℕ → (ℕ → S → S) → S → S
  upto lo hi f s = turns f (hi - lo) lo s
