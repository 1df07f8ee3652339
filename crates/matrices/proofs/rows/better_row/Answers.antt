-- Each way out is a case of the definition's test.
use mathlib.Core.Path.{◌≡◌, refl}
use Prim.Native.Nat.{ℕ}
use mathlib.Core.Bool.{Bool, cond}
use lib.Ieee.{Float, lt}
use Rattle.real.specs.Sign.{abs_of}
use Rattle.matrices.specs.Lu.{better}
use Rattle.matrices.specs.declared.Pivot.{Pivot}
use Rattle.matrices.proofs.rows.better_row.Goals as goal

-- what the code's test finds is what `better` takes
better_by : (x : Float) (k : ℕ) (b : Pivot) (magnitude : Float) (t : Bool) → magnitude ≡ abs_of x → lt b.magnitude magnitude ≡ t → cond t (record { magnitude = magnitude; row = k }) b ≡ better x k b
unfolding better
better_by x k b magnitude t e h = rw (← e, h) refl

-- taken: strictly greater
pub returns-then-b-magnitude : goal.returns-then-b-magnitude
returns-then-b-magnitude c = better_by _ _ _ _ _ c.abs-magnitude.ensures c.if-b-magnitude.true

-- left: the earlier one stays
pub returns-else-b-magnitude : goal.returns-else-b-magnitude
returns-else-b-magnitude c = better_by _ _ _ _ _ c.abs-magnitude.ensures c.if-b-magnitude.false
