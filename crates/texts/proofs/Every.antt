-- A test of every number below a bound, as a loop with an early answer makes it. Assumes nothing.
use Prim.Native.Nat.{ℕ, zero, suc, ◌+◌, ◌<◌, ◌≤◌}
use mathlib.Core.Path.{◌≡◌, refl, sym, ap, ◌∙◌}
use mathlib.Core.Bool.{Bool, true, false, ◌&&◌, true≢false}
use native.Mathlib.Omega.{arith}
use lib.Dec.{ltb, eqb}
use borrow.Author.Count.{below_more}
use borrow.Author.Tests.{ltb-true, ltb-false, eq-eqb, ne_eqb}
use Rattle.std.specs.Prelude.{IsTrue}
use Rattle.texts.specs.Digits.{every}

pub and_false : (b : Bool) → (b && false) ≡ false
and_false true = refl
and_false false = refl

-- both of two tests
pub both_true : (a b : Bool) → (a && b) ≡ true → (a ≡ true) × (b ≡ true)
both_true true b e = (refl, e)
both_true false b e = absurd (true≢false (sym e))

-- a byte b that was read as x, and is y or not
pub read_same : (b x y : ℕ) → b ≡ x → b ≡ y → eqb x y ≡ true
read_same b x y e h = eq-eqb x y (sym e ∙ h)

pub read_other : (b x y : ℕ) → b ≡ x → (b ≡ y → ⊥) → eqb x y ≡ false
read_other b x y e h = ne_eqb x y (λ z. h (e ∙ z))

module _ (p : ℕ → Bool) where
  pub every_true : (n : ℕ) → ((k : ℕ) → k < n → p k ≡ true) → every p n ≡ true
  unfolding every
  every_true zero h = refl
  every_true (suc n) h = ap (λ (b : Bool). b && p n) (every_true n (λ k lt. h k (omega arith))) ∙ h n (omega arith)

  -- one number that fails, by whether it is the last
  at : (n k : ℕ) (b : Bool) → k < suc n → ltb k n ≡ b → (k < n → every p n ≡ false) → p k ≡ false → (every p n && p n) ≡ false
  at n k true lt t h e = ap (λ (b : Bool). b && p n) (h (ltb-true k n t))
  at n k false lt t h e = ap (λ (b : Bool). every p n && b) (ap p (last n k lt (ltb-false k n t)) ∙ e) ∙ and_false (every p n)
    where
      last : (n k : ℕ) → k < suc n → n ≤ k → n ≡ k
      last n k lt le = omega arith

  pub every_false : (n k : ℕ) → k < n → p k ≡ false → every p n ≡ false
  unfolding every
  every_false zero k lt e = absurd (omega arith)
  every_false (suc n) k lt e = at n k (ltb k n) lt refl (λ h. every_false n k h e) e

  -- and back: what holds of every number below n holds of each
  pub every_at : (n k : ℕ) → every p n ≡ true → k < n → p k ≡ true
  every_at n k e h = by (p k) refl
    where
      by : (b : Bool) → p k ≡ b → p k ≡ true
      by true t = t
      by false t = absurd (true≢false (sym e ∙ every_false n k h t))

-- what the loop keeps: the numbers below i, of those below n, have passed
pub record Passed (p : ℕ → Bool) (n i : ℕ) : Type 0 where
  pub within : i ≤ n
  pub each : (j : ℕ) → j < i → p j ≡ true

module _ (p : ℕ → Bool) (n : ℕ) where
  pub passed_none : Passed p n 0
  passed_none = record { within = omega arith; each = λ j h. absurd (omega arith) }

  pub passed_more : (i : ℕ) → Passed p n i → i < n → p i ≡ true → Passed p n (i + 1)
  passed_more i h lt e = record { within = omega arith; each = below_more (λ j. p j ≡ true) i h.each e }

  pub passed_all : (i : ℕ) → Passed p n i → n ≤ i → every p n ≡ true
  passed_all i h le = every_true p n (λ k lt. h.each k (omega arith))

-- the same of a chain that tests every item of a list
pub every_said : (p : ℕ → Bool) (q : ℕ → Type 0) (n : ℕ) (r : Bool) → ((k : ℕ) → q k → p k ≡ true) → ((k : ℕ) → p k ≡ true → q k) → (IsTrue r → (k : ℕ) → k < n → q k) → (((k : ℕ) → k < n → q k) → IsTrue r) → r ≡ every p n
every_said p q n true a b f g = sym (every_true p n (λ k lt. a k (f refl k lt)))
every_said p q n false a b f g = by (every p n) refl
  where
    by : (t : Bool) → every p n ≡ t → false ≡ every p n
    by true e = absurd (true≢false (sym (g (λ k lt. b k (every_at p n k e lt)))))
    by false e = sym e
