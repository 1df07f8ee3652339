-- Of the contract itself. What a result buffer held before has no effect: two calls with equal inputs, and result's buffers of equal lengths, give the same answer and
-- sweep count, and where they are done leave the same, whole. A refused call writes nothing. `κs`, `a`, `x`, `v` are a call's lifetimes, arguments, answer and buffers at
-- exit; `κs'`, `a'`, `x'`, `v'` another's. Assumes nothing.
use Rattle.std.specs.Prelude.{ℕ, Result}
use mathlib.Core.Path.{◌≡◌, refl, ap, sym, subst, ◌∙◌}
use mathlib.Core.Bool.{Bool, true, false, cond}
use mathlib.Core.List.{List}
use lib.Dec.{eqb}
use lib.ListN.{length}
use lib.Ieee.{Float}
use borrow.Fn.Kinds.{Dens, ended_of}
use contract.Lifetimes.{Lfts}
use denote.Triple.Clauses.{Lasts, at_exit}
use Rattle.algebra.specs.Algebra.{Algebra}
use Rattle.algebra.specs.Flat.{Layout, decode}
use Rattle.refusals.specs.declared.Refusal.{Refusal}
use Rattle.algebra.specs.Outcome.{refused, outcome}
use Rattle.dual.specs.Rules.{dual_algebra, dual_layout}
use Rattle.matrices.proofs.Answers.{not_both}
use Rattle.jacobi.specs.Entry.{jacobi_refusal, JacobiLeft, jacobi_answered, jacobi_done, jacobi_left}
use Rattle.jacobi.specs.PreviousContents.{EqualJacobi}
use Rattle.jacobi.specs.Sort.{jacobi_of}
use Rattle.jacobi.proofs.jacobi_eigenvalue as entry

-- over any record, by the two ways out
module _ {R : Type 0} (A : Algebra R) (L : Layout R) (n : ℕ) (a : List Float) (limit : ℕ) where
  left : Bool → ℕ → List Float → List Float → JacobiLeft
  left t k d v = cond t (jacobi_done A L n (jacobi_of A n limit (decode L a))) (jacobi_answered (refused k) d v)

  jacobi_equal : (d d' v v' : List Float) → length d ≡ length d' → length v ≡ length v' → EqualJacobi (jacobi_left A L n a limit d v) (jacobi_left A L n a limit d' v')
  unfolding jacobi_left left
  jacobi_equal d d' v v' hd hv = let k = jacobi_refusal L.width n (length a) limit (length d') (length v') in rw (hd, hv) (go (eqb k 0) k)
    where
      go : (t : Bool) (k : ℕ) → EqualJacobi (left t k d v) (left t k d' v')
      go true k = record { answer = refl; written = λ w. refl }
      go false k = record { answer = refl; written = λ w. absurd w }

  jacobi_kept : (d v : List Float) (number : ℕ) → (jacobi_left A L n a limit d v).answer ≡ refused number → ((jacobi_left A L n a limit d v).values ≡ d) × ((jacobi_left A L n a limit d v).vectors ≡ v)
  unfolding jacobi_left left
  jacobi_kept d v number e = let k = jacobi_refusal L.width n (length a) limit (length d) (length v) in go (eqb k 0) k e
    where
      go : (t : Bool) (k : ℕ) → (left t k d v).answer ≡ refused number → ((left t k d v).values ≡ d) × ((left t k d v).vectors ≡ v)
      go true k e = absurd (not_both e)
      go false k e = (refl, refl)

module _ (κs : Lfts 3) (a : Dens κs entry.Kinds.ps) (x : Result ℕ Refusal) (v : Lasts (ended_of 3 entry.Kinds.ps entry.Kinds.r) κs a) (p : entry.Reads.Post κs a x (at_exit (ended_of 3 entry.Kinds.ps entry.Kinds.r) κs a v)) where
  -- a call that is refused leaves both buffers as they were
  pub jacobi_nothing_written : (number : ℕ) → outcome x ≡ refused number → (v.1.1.1.0 ≡ a.1.1.1.0.now) × (v.1.1.1.1.0 ≡ a.1.1.1.1.0.now)
  jacobi_nothing_written number e =
      let k = jacobi_kept dual_algebra dual_layout a.0 a.1.0.now a.1.1.0 a.1.1.1.0.now a.1.1.1.1.0.now number (sym (ap (λ (l : JacobiLeft). l.answer) p) ∙ e) in
      (ap (λ (l : JacobiLeft). l.values) p ∙ k.0, ap (λ (l : JacobiLeft). l.vectors) p ∙ k.1)

  -- two calls with the same size, matrix and limit, whatever the result's buffers held
  pub jacobi_previous_contents : (κs' : Lfts 3) (a' : Dens κs' entry.Kinds.ps) (x' : Result ℕ Refusal) (v' : Lasts (ended_of 3 entry.Kinds.ps entry.Kinds.r) κs' a') → entry.Reads.Post κs' a' x' (at_exit (ended_of 3 entry.Kinds.ps entry.Kinds.r) κs' a' v')
      → a.0 ≡ a'.0 → a.1.0.now ≡ a'.1.0.now → a.1.1.0 ≡ a'.1.1.0
      → length a.1.1.1.0.now ≡ length a'.1.1.1.0.now → length a.1.1.1.1.0.now ≡ length a'.1.1.1.1.0.now
      → EqualJacobi (jacobi_answered (outcome x) v.1.1.1.0 v.1.1.1.1.0) (jacobi_answered (outcome x') v'.1.1.1.0 v'.1.1.1.1.0)
  jacobi_previous_contents κs' a' x' v' p' n m limit d w =
      let second = p' ∙ (λ i. jacobi_left dual_algebra dual_layout (sym n i) (sym m i) (sym limit i) a'.1.1.1.0.now a'.1.1.1.1.0.now) in
      subst (λ (l : JacobiLeft). EqualJacobi l (jacobi_answered (outcome x') v'.1.1.1.0 v'.1.1.1.1.0)) (sym p)
      (subst (EqualJacobi (jacobi_left dual_algebra dual_layout a.0 a.1.0.now a.1.1.0 a.1.1.1.0.now a.1.1.1.1.0.now)) (sym second)
      (jacobi_equal dual_algebra dual_layout a.0 a.1.0.now a.1.1.0 _ _ _ _ d w))
