-- The difference of two numbers below 2 ^ 63, as an i64: below a number exactly where they say so, and where it is not below zero what the one leaves of the other.
-- Assumes nothing.
use mathlib.Core.Path.{◌≡◌, sym, ap, ◌∙◌, subst}
use mathlib.Core.Bool.{Bool, true, false, cond, true≢false}
use Prim.Native.Nat.{ℕ, zero, suc, ◌+◌, ◌-◌, ◌^◌, ◌≤◌, ◌<◌}
use native.Mathlib.Nat.{lt_of_not-le}
use native.Mathlib.Omega.{arith}
use native.Mathlib.Decide.{dec_le}
use lib.IntN.{ℤ, pos, negsuc, ◌-ℤ◌}
use lib.Signed.{lt_z}
use mir.Syntax.{w64}
use mir.Val.{SFits, sel, of_z, to_z}
use mir.ValLaws.{to_z-of_z}
use borrow.Author.Tests.{ltb-true, ltb-false, lt-ltb, le-ltb}

-- a number below 2 ^ 63 is itself
itself : (n : ℕ) → n < 2 ^ 63 → to_z w64 n ≡ pos n
itself n h = ap (λ (t : Bool). sel t (pos n) (negsuc (2 ^ 64 - suc n))) (lt-ltb n (2 ^ 63) h)

more : (a b : ℕ) → b ≤ a → pos a -ℤ pos b ≡ pos (a - b)
more a zero h = ap pos (plain a)
  where
    plain : (a : ℕ) → a + 0 ≡ a - 0
    plain a = omega arith
more a (suc b) h = ap (λ (t : Bool). cond t (negsuc (suc b - suc a)) (pos (a - suc b))) (le-ltb a (suc b) h)

less : (a b : ℕ) → a < b → pos a -ℤ pos b ≡ negsuc (b - suc a)
less a zero h = absurd (none h)
  where
    none : a < 0 → ⊥
    none g = omega arith
less a (suc b) h = ap (λ (t : Bool). cond t (negsuc (suc b - suc a)) (pos (a - suc b))) (lt-ltb a (suc b) h)

module _ (a b : ℕ) (A : a < 2 ^ 63) (B : b < 2 ^ 63) where
  abbrev difference : ℤ
  difference = to_z w64 a -ℤ to_z w64 b

  -- it, as the machine holds it
  abbrev pub held : ℤ
  held = to_z w64 (of_z w64 difference)

  numbers : difference ≡ pos a -ℤ pos b
  numbers = (λ i. itself a A i -ℤ itself b B i)

  pub in_word : SFits w64 difference
  in_word = go (dec_le b a)
    where
      go : Dec (b ≤ a) → SFits w64 difference
      go (yes h) = subst (λ (z : ℤ). SFits w64 z) (sym (numbers ∙ more a b h)) (record { sfits = omega arith })
      go (no g) = let h : a < b = lt_of_not-le g in subst (λ (z : ℤ). SFits w64 z) (sym (numbers ∙ less a b h)) (record { sfits = omega arith })

  short : a < b → held ≡ negsuc (b - suc a)
  short h = to_z-of_z w64 difference in_word ∙ numbers ∙ less a b h

  -- b is at most a: what b leaves of a
  pub what_is_left : b ≤ a → held ≡ pos (a - b)
  what_is_left h = to_z-of_z w64 difference in_word ∙ numbers ∙ more a b h

  -- held to a number
  pub is_below : (k : ℕ) → lt_z held (pos k) ≡ true → a < b + k
  is_below k t = go (dec_le b a)
    where
      go : Dec (b ≤ a) → a < b + k
      go (yes h) = omega (arith, ltb-true (a - b) k (sym (ap (λ (z : ℤ). lt_z z (pos k)) (what_is_left h)) ∙ t))
      go (no g) = let h : a < b = lt_of_not-le g in omega arith

  pub is_not_below : (k : ℕ) → lt_z held (pos k) ≡ false → b + k ≤ a
  is_not_below k t = go (dec_le b a)
    where
      go : Dec (b ≤ a) → b + k ≤ a
      go (yes h) = omega (arith, ltb-false (a - b) k (sym (ap (λ (z : ℤ). lt_z z (pos k)) (what_is_left h)) ∙ t))
      go (no g) = absurd (true≢false (sym (ap (λ (z : ℤ). lt_z z (pos k)) (short (lt_of_not-le g))) ∙ t))
