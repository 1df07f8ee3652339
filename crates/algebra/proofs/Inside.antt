-- What is read inside a list does not depend on what stands for the elements that it lacks. Assumes nothing.
use Prim.Native.Nat.{ℕ, zero, suc, ◌<◌}
use mathlib.Core.Path.{◌≡◌, refl}
use mathlib.Core.List.{List, [], ◌∷◌}
use native.Mathlib.Omega.{arith}
use lib.ListN.{length, get_or}

pub get_or-inside : {A : Type 0} (l : List A) (i : ℕ) (d e : A) → i < length l → get_or l i d ≡ get_or l i e
get_or-inside [] i d e h = absurd (omega arith)
get_or-inside (x ∷ l) zero d e h = refl
get_or-inside (x ∷ l) (suc i) d e h = get_or-inside l i d e (omega arith)
