-- What a run starts from: the identity, the diagonal, the sums. Over any record. Assumes nothing.
use Prim.Native.Nat.{ℕ, ◌*◌}
use mathlib.Core.Path.{◌≡◌, ap, ◌∙◌}
use mathlib.Core.List.{List}
use lib.ListN.{length, replicate, set}
use lib.Ieee.{Float}
use Rattle.real.specs.Operations as float
use Rattle.algebra.specs.Algebra.{Algebra, zero_of}
use Rattle.algebra.specs.Flat.{Layout, decode}
use Rattle.algebra.specs.Loop.{upto}
use Rattle.algebra.proofs.Laws.{Laws}
use Rattle.matrices.specs.Matrix.{Square, cell}
use Rattle.rotations.specs.Rotation.{work}
use Rattle.jacobi.specs.Sweeps.{going, put_one, identity, put_diagonal, diagonal, start}
use Rattle.jacobi.proofs.Scratch.{blank}

module _ {R : Type 0} {A : Algebra R} {L : Layout R} (Q : Laws A L) (n : ℕ) where
  pub identity_by : (v v₁ v₂ : List Float) → Square L.width n v → v₁ ≡ replicate (length v) float.zero → decode L v₂ ≡ upto 0 n (put_one A n) (decode L v₁) → decode L v₂ ≡ identity A n
  unfolding identity
  identity_by v v₁ v₂ s e p = p ∙ ap (upto 0 n (put_one A n)) (blank Q (n * n) v v₁ s.full e)

  pub diagonal_by : (a : List R) (d d₁ d₂ : List Float) → length d ≡ n * L.width → d₁ ≡ replicate (length d) float.zero → decode L d₂ ≡ upto 0 n (put_diagonal A n a) (decode L d₁) → decode L d₂ ≡ diagonal A n a
  unfolding diagonal
  diagonal_by a d d₁ d₂ s e p = p ∙ ap (upto 0 n (put_diagonal A n a)) (blank Q n d d₁ s e)

  pub start_by : (a w v d zw bw : List Float) → w ≡ a → decode L v ≡ identity A n → decode L d ≡ diagonal A n (decode L a) → decode L bw ≡ diagonal A n (decode L a) → decode L zw ≡ replicate n (zero_of A)
      → going (work (decode L w) (decode L v) (decode L d) (decode L zw) 0) (decode L bw) 0 ≡ start A n (decode L a)
  unfolding start
  start_by a w v d zw bw ew ev ed eb ez = λ i. going (work (decode L (ew i)) (ev i) (ed i) (ez i) 0) (eb i) 0

  -- one entry of the diagonal more, read from a matrix that is as it was
  pub diagonal_turn : (a b d d' : List R) (m i : ℕ) (x : R) → m ≡ n → b ≡ a → x ≡ cell A m b i i → d' ≡ set d i x → d' ≡ put_diagonal A n a i d
  unfolding put_diagonal
  diagonal_turn a b d d' m i x em eb ex ed = ed ∙ ap (set d i) (ex ∙ (λ j. cell A (em j) (eb j) i i))
