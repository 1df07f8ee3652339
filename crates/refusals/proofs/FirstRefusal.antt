-- Tests one after another, the first that fails giving its number: the two ways out of a test, and lengths that are asked together. A function that refuses finds its
-- ways out by the ruleset `tests`. Assumes nothing.
use Prim.Native.Nat.{ℕ}
use mathlib.Core.Path.{◌≡◌, refl, ap, ◌∙◌}
use mathlib.Core.Bool.{Bool, true, false, cond, ◌&&◌}
use lib.Dec.{eqb}
use borrow.Author.Tests.{lt-ltb, le-ltb, eq-eqb, ne_eqb}

-- the test of the definition is true, is false
module _ {S : Type 0} (t : Bool) (x y r : S) where
  pub when_true : t ≡ true → r ≡ x → r ≡ cond t x y
  when_true h e = rw h e

  pub when_false : t ≡ false → r ≡ y → r ≡ cond t x y
  when_false h e = rw h e

-- a length x where y is wanted, and the lengths after it
pub this_off : (x y : ℕ) (later : Bool) → (x ≡ y → ⊥) → (eqb x y && later) ≡ false
this_off x y later ne = ap (λ (t : Bool). t && later) (ne_eqb x y ne)

pub later_off : (t later : Bool) → later ≡ false → (t && later) ≡ false
later_off false later e = refl
later_off true later e = e

pub all_fit : (x y : ℕ) (later : Bool) → x ≡ y → later ≡ true → (eqb x y && later) ≡ true
all_fit x y later e l = ap (λ (t : Bool). t && later) (eq-eqb x y e) ∙ l

pub ruleset tests = (when_true, when_false, this_off, later_off, all_fit, lt-ltb, le-ltb, eq-eqb, ne_eqb)
