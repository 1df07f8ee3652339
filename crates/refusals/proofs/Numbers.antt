-- A refusal is known by its number, which is neither 0 nor that of a singular matrix: `refusal_of` undoes `number`. Assumes nothing.
use mathlib.Core.Path.{◌≡◌, refl, ap, sym, ◌∙◌}
use lib.Dec.{eqb, lit<}
use native.Mathlib.Omega.{arith}
use Rattle.std.specs.Prelude.{ℕ, ◌<◌, cond}
use Rattle.refusals.specs.Number as refusal
use Rattle.refusals.specs.Refused.{number}
use Rattle.refusals.specs.declared.Refusal.{Refusal}
use Rattle.refusals.specs.declared.Refusal.TheVariants.{TooLarge, WrongLength, Empty, LimitTooLarge, ExponentTooLarge, NotAnOrder, WrongSwaps, Unreadable, UnreadableMarket, NotSquare, WrongEntries, Unwritable}

abbrev pub refusal_of : ℕ → Refusal
refusal_of n =
    cond (eqb n 1) TooLarge (
    cond (eqb n 2) WrongLength (
    cond (eqb n 3) Empty (
    cond (eqb n 4) LimitTooLarge (
    cond (eqb n 5) ExponentTooLarge (
    cond (eqb n 7) NotAnOrder (
    cond (eqb n 8) WrongSwaps (
    cond (eqb n 9) Unreadable (
    cond (eqb n 10) UnreadableMarket (
    cond (eqb n 11) NotSquare (
    cond (eqb n 12) WrongEntries (
    Unwritable)))))))))))

pub refusal_of-number : (e : Refusal) → refusal_of (number e) ≡ e
refusal_of-number TooLarge = refl
refusal_of-number WrongLength = refl
refusal_of-number Empty = refl
refusal_of-number LimitTooLarge = refl
refusal_of-number ExponentTooLarge = refl
refusal_of-number NotAnOrder = refl
refusal_of-number WrongSwaps = refl
refusal_of-number Unreadable = refl
refusal_of-number UnreadableMarket = refl
refusal_of-number NotSquare = refl
refusal_of-number WrongEntries = refl
refusal_of-number Unwritable = refl

pub number_one : (a b : Refusal) → number a ≡ number b → a ≡ b
number_one a b e = sym (refusal_of-number a) ∙ ap refusal_of e ∙ refusal_of-number b

pub number_positive : (e : Refusal) → 0 < number e
number_positive TooLarge = lit< tt
number_positive WrongLength = lit< tt
number_positive Empty = lit< tt
number_positive LimitTooLarge = lit< tt
number_positive ExponentTooLarge = lit< tt
number_positive NotAnOrder = lit< tt
number_positive WrongSwaps = lit< tt
number_positive Unreadable = lit< tt
number_positive UnreadableMarket = lit< tt
number_positive NotSquare = lit< tt
number_positive WrongEntries = lit< tt
number_positive Unwritable = lit< tt

pub number_not_singular : (e : Refusal) → number e ≡ refusal.singular → ⊥
number_not_singular TooLarge h = omega arith
number_not_singular WrongLength h = omega arith
number_not_singular Empty h = omega arith
number_not_singular LimitTooLarge h = omega arith
number_not_singular ExponentTooLarge h = omega arith
number_not_singular NotAnOrder h = omega arith
number_not_singular WrongSwaps h = omega arith
number_not_singular Unreadable h = omega arith
number_not_singular UnreadableMarket h = omega arith
number_not_singular NotSquare h = omega arith
number_not_singular WrongEntries h = omega arith
number_not_singular Unwritable h = omega arith
