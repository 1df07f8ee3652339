-- The rotation, and an entry by its three choices: each function cites one of these with its calls' own equations. Over any record. Assumes nothing.
use Prim.Native.Nat.{ℕ, ◌+◌}
use mathlib.Core.Path.{◌≡◌, ap, sym, ◌∙◌}
use mathlib.Core.List.{List}
use lib.Ieee.{Float}
use Rattle.algebra.specs.Algebra.{Algebra, zero_of}
use Rattle.matrices.specs.Matrix.{cell, store}
use Rattle.rotations.specs.declared.Choice.{Choice}
use Rattle.rotations.specs.declared.Choice.TheVariants.{Keep, Clear, Rotate}
use Rattle.rotations.specs.Rotation.{Angle, angle, Work, work, choice_of, angle_of, item, shift, turn_columns, turn_above, rotate, act, pair}

-- the entry (p, q) and the two diagonal entries beside it, as they were read
pub record Entries {R : Type 0} (A : Algebra R) (n p q : ℕ) (a d : List R) (x dp dq : R) : Type 0 where
  pub entry : x ≡ cell A n a p q
  pub first : dp ≡ item A d p
  pub second : dq ≡ item A d q

module _ {R : Type 0} (A : Algebra R) (n p q : ℕ) where
  -- what is worked on before: the matrix, the vectors, the diagonal, its gains and the rotations
  module _ (a v d zw : List R) (rotations : ℕ) where
    pub rotate_by : (s tau h : R) (a' v' d' zw' : List R) → a' ≡ turn_above A n s tau p q a → v' ≡ turn_columns A n s tau p q n v
        → d' ≡ shift A p q h d → zw' ≡ shift A p q h zw → work a' v' d' zw' (rotations + 1) ≡ rotate A n p q (angle s tau h) (work a v d zw rotations)
    unfolding rotate
    rotate_by s tau h a' v' d' zw' ea ev ed ez = λ i. work (ea i) (ev i) (ed i) (ez i) (rotations + 1)

    -- an entry by its three choices
    module _ (thresh : Float) (it-num : ℕ) (x dp dq : R) (c : Choice) (e : Entries A n p q a d x dp dq) (ec : c ≡ choice_of A thresh it-num x dp dq) where
      chosen : (k : Choice) → c ≡ k → pair A n thresh it-num p q (work a v d zw rotations) ≡ act A n p q k (work a v d zw rotations)
      unfolding pair
      chosen k h = ap (λ (j : Choice). act A n p q j (work a v d zw rotations)) (sym (ec ∙ (λ i. choice_of A thresh it-num (e.entry i) (e.first i) (e.second i))) ∙ h)

      pub pair_keep : c ≡ Keep → work a v d zw rotations ≡ pair A n thresh it-num p q (work a v d zw rotations)
      unfolding act
      pair_keep h = sym (chosen Keep h)

      pub pair_clear : (a' : List R) → c ≡ Clear → a' ≡ store A n a p q (zero_of A) → work a' v d zw rotations ≡ pair A n thresh it-num p q (work a v d zw rotations)
      unfolding act
      pair_clear a' h s = ap (λ (l : List R). work l v d zw rotations) s ∙ sym (chosen Clear h)

      pub pair_rotate : (t : Angle R) (r : Work R) → c ≡ Rotate → t ≡ angle_of A x dp dq → r ≡ rotate A n p q t (work a v d zw rotations) → r ≡ pair A n thresh it-num p q (work a v d zw rotations)
      unfolding act
      pair_rotate t r h et er =
          er ∙ ap (λ (u : Angle R). rotate A n p q u (work a v d zw rotations)) (et ∙ (λ i. angle_of A (e.entry i) (e.first i) (e.second i))) ∙ sym (chosen Rotate h)
