-- A loop that stores g i at i, one store a turn: what it has passed, and the list at its end. Assumes nothing.
use Prim.Native.Nat.{ℕ, ◌+◌, ◌≤◌, ◌<◌}
use mathlib.Core.Path.{◌≡◌, refl, sym, ap, ◌∙◌}
use mathlib.Core.List.{List}
use native.Mathlib.Omega.{arith}
use lib.ListN.{length, get_or, set, length-set}
use lib.Seq.{get_or-set_same, get_or-set_other, ext_get_or}
use borrow.Author.Count.{below_more}
use Rattle.algebra.specs.Flat.{tabulate}
use Rattle.algebra.proofs.Flat.{tabulate_length, tabulate_at}

module _ {B : Type 0} (d : B) (g : ℕ → B) where
  abbrev pub Filled : List B → ℕ → Type 0
  Filled l i = (k : ℕ) → k < i → get_or l k d ≡ g k

  pub filled_more : (l : List B) (i : ℕ) → i < length l → Filled l i → Filled (set l i (g i)) (i + 1)
  filled_more l i h f =
      below_more (λ k. get_or (set l i (g i)) k d ≡ g k) i
      (λ k lt. get_or-set_other l i k (g i) d (omega arith) ∙ f k lt)
      (get_or-set_same l i (g i) d h)

  pub filled_all : (l l' : List B) (i : ℕ) → length l ≤ i → length l ≡ length l' → Filled l i → ((k : ℕ) → k < length l → get_or l' k d ≡ g k) → l ≡ l'
  filled_all l l' i h e f w = ext_get_or d l l' e (λ k lt. f k (omega arith) ∙ sym (w k lt))

-- the loop's own fact: the length stays, and what was passed is filled
pub record Filling {B : Type 0} (d : B) (g : ℕ → B) (m : ℕ) (l : List B) (i : ℕ) : Type 0 where
  pub long : length l ≡ m
  pub filled : Filled d g l i

module _ {B : Type 0} (d : B) (g : ℕ → B) where
  pub filling_none : (l : List B) → Filling d g (length l) l 0
  filling_none l = record { long = refl; filled = λ k h. absurd (omega arith) }

  module _ (m : ℕ) (l : List B) (i : ℕ) (so_far : Filling d g m l i) where
    pub filling_more : (x : B) → i < length l → x ≡ g i → Filling d g m (set l i x) (i + 1)
    filling_more x h e = record { long = simp length-set so_far.long; filled = rw e (filled_more d g l i h so_far.filled) }

    pub filling_all : length l ≤ i → l ≡ tabulate g m 0
    filling_all h = filled_all d g l (tabulate g m 0) i h (so_far.long ∙ sym (tabulate_length g m 0)) so_far.filled (λ k lt. tabulate_at g m 0 k d (omega (arith, so_far.long)) ∙ ap g (omega arith))
