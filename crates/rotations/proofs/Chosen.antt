-- What is chosen for an entry, and its tangent, by the tests on the way: each function cites one of these with its calls' own equations. Over any record. Assumes nothing.
use Prim.Native.Nat.{ℕ, ◌≤◌, ◌<◌}
use mathlib.Core.Path.{◌≡◌, ap, sym, ◌∙◌}
use mathlib.Core.Bool.{Bool, true, false, cond, ◌&&◌}
use lib.Dec.{ltb}
use lib.Ieee.{Float, eq, le}
use borrow.Author.Tests.{lt-ltb, le-ltb}
use Rattle.real.specs.Operations.{half}
use Rattle.real.specs.Sign.{sign_of, abs_of}
use Rattle.algebra.specs.Algebra.{Algebra, magnitude}
use Rattle.derivatives.specs.Apply.{recip_of}
use Rattle.rotations.specs.declared.Choice.TheVariants.{Keep, Clear, Rotate}
use Rattle.rotations.specs.Rotation.{gap_of, absorbed, choice_of, hypotenuse_of, tangent_of, rotation_tangent}

-- ---- what is chosen

module _ {R : Type 0} (A : Algebra R) (it-num : ℕ) (x dp dq : R) where
  abbrev Cleared : Bool
  Cleared = ltb 4 it-num && (absorbed A (gap_of A x) dp && absorbed A (gap_of A x) dq)

  -- the test on dp, by the outcome of the code's own
  tested : (gapq : R) (b t : Bool) → gapq ≡ gap_of A x → b ≡ absorbed A gapq dp → b ≡ t → absorbed A (gap_of A x) dp ≡ t
  tested gapq b t eg eb et = ap (λ (g : R). absorbed A g dp) (sym eg) ∙ sym eb ∙ et

  pub cleared_both : (gapq : R) (b r : Bool) → 4 < it-num → gapq ≡ gap_of A x → b ≡ absorbed A gapq dp → b ≡ true → r ≡ absorbed A gapq dq → r ≡ Cleared
  cleared_both gapq b r h eg eb et er =
      er ∙ ap (λ (g : R). absorbed A g dq) eg ∙ sym (λ i. lt-ltb 4 it-num h i && (tested gapq b true eg eb et i && absorbed A (gap_of A x) dq))

  pub cleared_first : (gapq : R) (b : Bool) → 4 < it-num → gapq ≡ gap_of A x → b ≡ absorbed A gapq dp → b ≡ false → false ≡ Cleared
  cleared_first gapq b h eg eb et = sym (λ i. lt-ltb 4 it-num h i && (tested gapq b false eg eb et i && absorbed A (gap_of A x) dq))

  pub cleared_early : it-num ≤ 4 → false ≡ Cleared
  cleared_early h = sym (λ i. le-ltb 4 it-num h i && (absorbed A (gap_of A x) dp && absorbed A (gap_of A x) dq))

  module _ (thresh : Float) (b : Bool) (eb : b ≡ Cleared) where
    pub choose_clear : b ≡ true → Clear ≡ choice_of A thresh it-num x dp dq
    unfolding choice_of
    choose_clear t = sym (ap (λ (c : Bool). cond c Clear (cond (le thresh (abs_of (A.re x))) Rotate Keep)) (sym eb ∙ t))

    module _ (f : b ≡ false) (size : Float) (es : size ≡ abs_of (A.re x)) where
      beyond : (t : Bool) → le thresh size ≡ t → cond t Rotate Keep ≡ choice_of A thresh it-num x dp dq
      unfolding choice_of
      beyond t h = sym (λ i. cond ((sym eb ∙ f) i) Clear (cond ((ap (le thresh) (sym es) ∙ h) i) Rotate Keep))

      pub choose_rotate : le thresh size ≡ true → Rotate ≡ choice_of A thresh it-num x dp dq
      choose_rotate h = beyond true h

      pub choose_keep : le thresh size ≡ false → Keep ≡ choice_of A thresh it-num x dp dq
      choose_keep h = beyond false h

-- ---- the tangent

module _ {R : Type 0} (A : Algebra R) where
  -- from theta: the magnitude, the root, their sum, its reciprocal, and the sign
  module _ (theta size root sum t : R) (b : Bool) (es : size ≡ magnitude A theta) (eh : root ≡ hypotenuse_of A theta) (em : sum ≡ A.add size root) (et : t ≡ recip_of A sum) (eb : b ≡ sign_of (A.re theta)) where
    signed : (s : Bool) → b ≡ s → cond s (A.neg t) t ≡ tangent_of A theta
    unfolding tangent_of
    signed s e =
        let quotient = et ∙ ap (recip_of A) (em ∙ (λ i. A.add (es i) (eh i))) in
        λ i. cond ((sym e ∙ eb) i) (A.neg (quotient i)) (quotient i)

    pub tangent_negated : (r : R) → b ≡ true → r ≡ A.neg t → r ≡ tangent_of A theta
    tangent_negated r e er = er ∙ signed true e

    pub tangent_kept : b ≡ false → t ≡ tangent_of A theta
    tangent_kept e = signed false e

  -- from the entry x and the difference h: h's magnitude, the gap, their sum, and whether it is the magnitude still
  module _ (x h size gapq sum : R) (b : Bool) (es : size ≡ magnitude A h) (eg : gapq ≡ gap_of A x) (em : sum ≡ A.add size gapq) (eb : b ≡ eq (A.re sum) (A.re size)) where
    by_test : (t : Bool) → b ≡ t → cond t (A.div x h) (tangent_of A (A.div (A.mul_float h half) x)) ≡ rotation_tangent A x h
    unfolding rotation_tangent
    by_test t et =
        let sums = em ∙ (λ i. A.add (es i) (eg i)) in
        let test = sym et ∙ eb ∙ (λ i. eq (A.re (sums i)) (A.re (es i))) in
        ap (λ (c : Bool). cond c (A.div x h) (tangent_of A (A.div (A.mul_float h half) x))) test

    pub tangent_small : (r : R) → b ≡ true → r ≡ A.div x h → r ≡ rotation_tangent A x h
    tangent_small r e er = er ∙ by_test true e

    pub tangent_large : (u v r : R) → b ≡ false → u ≡ A.mul_float h half → v ≡ A.div u x → r ≡ tangent_of A v → r ≡ rotation_tangent A x h
    tangent_large u v r e eu ev er = er ∙ ap (tangent_of A) (ev ∙ ap (λ (y : R). A.div y x) eu) ∙ by_test false e
