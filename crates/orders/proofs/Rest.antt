-- What is left of a list at a loop's turn and at its end, and sums of Booleans. Assumes nothing.
use Prim.Native.Nat.{ℕ, ◌+◌, ◌≤◌, ◌<◌}
use mathlib.Core.Path.{◌≡◌, refl, ap, sym, ◌∙◌}
use mathlib.Core.Bool.{Bool, true, false, not-not}
use mathlib.Core.List.{List, [], ◌∷◌}
use native.Mathlib.Numerals.{add-one}
use lib.ListN.{length, get_or, drop, drop_of_length-le}
use lib.Seq.{drop-cons}
use Rattle.orders.specs.Order.{differ}

pub rest_turn : (l : List ℕ) (k : ℕ) → k < length l → drop k l ≡ get_or l k 0 ∷ drop (k + 1) l
rest_turn l k h = drop-cons l k 0 h ∙ ap (λ (j : ℕ). get_or l k 0 ∷ drop j l) (sym (add-one k))

pub rest_end : (l : List ℕ) (k : ℕ) → length l ≤ k → drop k l ≡ []
rest_end l k h = drop_of_length-le l h

pub differ_turn : (t a b : Bool) → differ (differ t a) b ≡ differ a (differ t b)
differ_turn false a b = refl
differ_turn true false b = refl
differ_turn true true b = sym (not-not b)

pub differ_false : (a : Bool) → differ a false ≡ a
differ_false false = refl
differ_false true = refl

pub differ_swap : (a b c : Bool) → differ a (differ b c) ≡ differ b (differ a c)
differ_swap false b c = refl
differ_swap true false c = refl
differ_swap true true c = refl
