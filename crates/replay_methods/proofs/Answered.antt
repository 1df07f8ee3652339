-- What the method of the lent words answers is what the method of their records does: a law over any record. Assumes nothing.
use Prim.Native.Nat.{ℕ, ◌*◌}
use mathlib.Core.Path.{◌≡◌}
use mathlib.Core.Bool.{Bool}
use mathlib.Core.List.{List}
use native.Mathlib.Omega.{arith}
use lib.ListN.{length, get_or}
use lib.Ieee.{Float}
use Rattle.refusals.specs.Largest as largest
use Rattle.algebra.specs.Algebra.{Algebra, zero_of}
use Rattle.algebra.specs.Flat.{Layout, record_at, decode}
use Rattle.algebra.proofs.Laws.{Laws}
use Rattle.floats.specs.Words.{floats_of, first_floats}
use Rattle.calls.proofs.Lent.{lent}
use Rattle.replay_methods.specs.Methods.{float_at, same_method}

-- Of the records and the float that the words hold.
module _ {R : Type 0} {A : Algebra R} {L : Layout R} (Q : Laws A L) (n : ℕ) (records floats wanted : List ℕ) (r : Bool) where
  pub same_lent : (x y : R) (a : Float) (l : List Float) (count : ℕ) → r ≡ same_method A L n x y a wanted → x ≡ get_or (decode L l) 0 (zero_of A) → y ≡ get_or (decode L l) 1 (zero_of A)
      → l ≡ first_floats records count → length l ≡ 2 * largest.width → a ≡ float_at floats 0
      → r ≡ same_method A L n (record_at L (floats_of records) 0) (record_at L (floats_of records) 1) (float_at floats 0) wanted
  same_lent x y a l count h e f first size g = let narrow = Q.narrow in rw (← lent Q records l count first 0 x (omega arith) e, ← lent Q records l count first 1 y (omega arith) f, ← g) h
