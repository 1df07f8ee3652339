-- Records of lent words, through the record's own reader: laws over any record. Assumes nothing.
use Prim.Native.Nat.{ℕ, ◌+◌, ◌*◌, ◌≤◌, ◌<◌}
use mathlib.Core.Path.{◌≡◌, refl, sym, ap, ◌∙◌}
use mathlib.Core.List.{List}
use native.Mathlib.Omega.{arith}
use lib.ListN.{length, get_or}
use lib.Ieee.{Float}
use Rattle.real.specs.Operations as float
use Rattle.algebra.specs.Algebra.{Algebra, zero_of}
use Rattle.algebra.specs.Flat.{Layout, record_at, decode}
use Rattle.algebra.proofs.Laws.{Laws}
use Rattle.algebra.proofs.Flat.{tabulate_length, tabulate_at}
use Rattle.algebra.proofs.Cells.{read_at}
use Rattle.floats.specs.Words.{floats_of, first_floats}

-- A record that the reader gives of the first floats of the words is the one that the words hold.
module _ {R : Type 0} {A : Algebra R} {L : Layout R} (Q : Laws A L) (words : List ℕ) (l : List Float) (count : ℕ) (first : l ≡ first_floats words count) where
  as_read : (p : ℕ) → p * L.width + L.width ≤ length l → (i : ℕ) → i < L.width → get_or l (p * L.width + i) float.zero ≡ get_or (floats_of words) (p * L.width + i) float.zero
  unfolding first_floats
  as_read p h i b =
      let at = p * L.width + i in
      let word : ℕ → Float = λ k. get_or (floats_of words) k float.zero in
      let size : length l ≡ count = ap length first ∙ tabulate_length word count 0 in
      ap (λ (m : List Float). get_or m at float.zero) first ∙ tabulate_at word count 0 at float.zero (omega arith) ∙ ap word (omega arith)

  pub lent : (p : ℕ) (x : R) → p * L.width + L.width ≤ length l → x ≡ get_or (decode L l) p (zero_of A) → x ≡ record_at L (floats_of words) p
  lent p x h e =
      let z = Q.lawful.positive in
      e ∙ sym (read_at Q l p float.zero (omega arith))
      ∙ Q.lawful.reads (λ i. get_or l (p * L.width + i) float.zero) (λ i. get_or (floats_of words) (p * L.width + i) float.zero) (as_read p h)
