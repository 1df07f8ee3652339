-- What `all` tells of the pairs of two lists, and of one list beside as many of one word, is what `==` tells place by place. Assumes nothing.
use mathlib.Core.Path.{◌≡◌, refl, ap}
use mathlib.Core.Bool.{Bool, ◌&&◌}
use mathlib.Core.List.{List, [], ◌∷◌}
use native.Mathlib.Omega.{arith}
use lib.ListN.{length, replicate}
use Rattle.std.specs.List.{list_all, zip}
use Rattle.std.specs.Cmp.Lexicographic.{pointwise}

module _ {A B : Type 0} (p : A → B → Bool) where
  pub all_pairs : (l : List A) (m : List B) → length l ≡ length m → list_all (λ (t : A × B). p t.0 t.1) (zip l m) ≡ pointwise p l m
  all_pairs [] [] e = refl
  all_pairs [] (y ∷ m) e = absurd (omega arith)
  all_pairs (x ∷ l) [] e = absurd (omega arith)
  all_pairs (x ∷ l) (y ∷ m) e = ap (λ (b : Bool). p x y && b) (all_pairs l m (omega arith))

  pub all_beside : (w : A) (m : List B) → list_all (p w) m ≡ pointwise p (replicate (length m) w) m
  all_beside w [] = refl
  all_beside w (y ∷ m) = ap (λ (b : Bool). p w y && b) (all_beside w m)
