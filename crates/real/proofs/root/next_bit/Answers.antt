-- What the trial leaves is below zero exactly where it does not fit: so both numbers are chosen by the definition's test. Assumes nothing.
use borrow.Author.Tests.{le-leb, lt-leb}
use mathlib.Core.Path.{◌≡◌, sym, ap, ◌∙◌, subst}
use mathlib.Core.Bool.{Bool, true, false, cond}
use Prim.Native.Nat.{ℕ, ◌+◌, ◌*◌, ◌^◌, ◌≤◌, ◌<◌}
use native.Mathlib.Omega.{arith}
use lib.Dec.{T, leb}
use lib.IntN.{ℤ, nat_abs}
use lib.Signed.{non_neg}
use mir.Syntax.{w64}
use mir.Val.{Fits}
use Rattle.real.specs.declared.root.Found.{Found}
use Rattle.real.specs.Bits.{next_of}
use Rattle.real.proofs.Differences.{in_word, what_is_left, is_below, is_not_below}
use Rattle.real.proofs.root.next_bit.Goals as goal
use Rattle.real.proofs.root.next_bit.Goals.{then-below, else-below, then-below-2, else-below-2}

-- what an `if` chose, where its flag is the test of two numbers
fitting : (t r x y v : ℕ) → t ≤ r → v ≡ x → v ≡ cond (leb t r) x y
fitting t r x y v h e = e ∙ sym (ap (λ (b : Bool). cond b x y) (le-leb t r h))

too_much : (t r x y v : ℕ) → r < t → v ≡ y → v ≡ cond (leb t r) x y
too_much t r x y v h e = e ∙ sym (ap (λ (b : Bool). cond b x y) (lt-leb t r h))

abbrev found_of_lem : ℕ → ℕ → ℕ → Found
found_of_lem twice rest bit = record { twice = twice; rest = rest; bit = bit }

-- both choices, by the one test
both : (t : Bool) (x x' y y' b v w : ℕ) → v ≡ cond t x x' → w ≡ cond t y y' → found_of_lem v w b ≡ cond t (found_of_lem x y b) (found_of_lem x' y' b)
both true x x' y y' b v w e f = λ i. found_of_lem (e i) (f i) b
both false x x' y y' b v w e f = λ i. found_of_lem (e i) (f i) b

-- both are below 2 ^ 63
pub overflow_sub-left : goal.overflow_sub-left
overflow_sub-left c =
    let small : let f = c.args.found in (2 * f.rest < 2 ^ 63) × (f.twice + f.bit < 2 ^ 63) = (omega arith, omega arith) in
    in_word _ _ small.0 small.1

-- not below zero
pub overflow_cast-result : goal.overflow_cast-result
overflow_cast-result c =
    let small : let f = c.args.found in (2 * f.rest < 2 ^ 63) × (f.twice + f.bit < 2 ^ 63) = (omega arith, omega arith) in
    let s = small in
    let fits = is_not_below _ _ s.0 s.1 _ c.if-below-2.false in
    subst (λ (z : ℤ). T (non_neg z) × Fits w64 (nat_abs z)) (sym (what_is_left _ _ s.0 s.1 (omega arith))) (tt, record { fits = omega (arith, s.0) })

pub returns : goal.returns
unfolding next_of
returns c =
    let small : let f = c.args.found in (2 * f.rest < 2 ^ 63) × (f.twice + f.bit < 2 ^ 63) = (omega arith, omega arith) in
    let found = c.args.found in
    let rest = 2 * found.rest in
    let trial = found.twice + found.bit in
    let s = small in
    both (leb trial rest) _ _ _ _ _ _ _
    (elim c.if-below.branch [
      | then-below w ↦ let more = is_below _ _ s.0 s.1 _ w.if-below.true in too_much trial rest _ _ _ (omega arith) w.result-is
      | else-below w ↦ let fits = is_not_below _ _ s.0 s.1 _ w.if-below.false in fitting trial rest _ _ _ (omega arith) w.result-is
    ])
    (elim c.if-below-2.branch [
      | then-below-2 w ↦ let more = is_below _ _ s.0 s.1 _ w.if-below-2.true in too_much trial rest _ _ _ (omega arith) w.result-is
      | else-below-2 w ↦ let fits = is_not_below _ _ s.0 s.1 _ w.if-below-2.false in fitting trial rest _ _ _ (omega arith) (w.result-is ∙ ap nat_abs (what_is_left _ _ s.0 s.1 (omega arith)))
    ])
