-- The loop keeps: what was passed is spoiled, what is to come is as it was (Spoiling).
use Prim.Native.Nat.{ℕ, ◌+◌, ◌≤◌, ◌<◌}
use mathlib.Core.Path.{◌≡◌, refl, sym, ap, ◌∙◌}
use mathlib.Core.List.{List}
use lib.ListN.{length, get_or, set, length-set}
use lib.Seq.{get_or-set_other}
use lib.Ieee.{Float, nan}
use native.Mathlib.Omega.{arith}
use Rattle.algebra.specs.Flat.{tabulate}
use Rattle.algebra.proofs.Flat.{tabulate_length, tabulate_at}
use Rattle.floats.proofs.Fill.{filled_more, filled_all}
use Rattle.replay_jacobi.specs.Runs.{spoiled_at, spoiled_of}
use borrow.Author.Rules.{rules}
use Rattle.replay_jacobi.proofs.spoil.Goals as goal
use Rattle.replay_jacobi.proofs.spoil.Invariants.{Spoiling}

turn : (n : ℕ) (l a : List Float) (k : ℕ) → Spoiling n l a k → (x : Float) → k < length a → x ≡ spoiled_at n k (get_or a k nan) → Spoiling n l (set a k x) (k + 1)
turn n l a k s x h e =
    let x-is : x ≡ spoiled_at n k (get_or l k nan) = e ∙ ap (spoiled_at n k) (s.rest k (omega arith)) in
    record {
      long = simp length-set s.long;
      filled = rw x-is (filled_more nan (λ j. spoiled_at n j (get_or l j nan)) a k h s.filled);
      rest = λ j lt. get_or-set_other a k j x nan (omega arith) ∙ s.rest j (omega arith);
    }

all : (n : ℕ) (l a : List Float) (k : ℕ) → Spoiling n l a k → length a ≤ k → a ≡ spoiled_of n l
unfolding spoiled_of
all n l a k s h =
    let g : ℕ → Float = λ j. spoiled_at n j (get_or l j nan) in
    filled_all nan g a (tabulate g (length l) 0) k h (s.long ∙ sym (tabulate_length g (length l) 0)) s.filled
    (λ j lt. tabulate_at g (length l) 0 j nan (omega (arith, s.long)) ∙ ap g (omega arith))

-- all is passed
pub returns : goal.returns
returns c = all _ _ _ _ c.loop-k.invariant (search rules)
