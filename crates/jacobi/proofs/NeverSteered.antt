-- Demand 3 of the contract itself: any two calls whose size, lengths, limit and real parts on and above the diagonal agree, whatever the derivative parts, the part
-- below and the result's buffers, give the same answer and sweep count, and the same real parts of what is written. And what stands below the diagonal has no effect.
-- `κs`, `a`, `x`, `v` are the one call's lifetimes, arguments, answer and buffers at exit; `κs'`, `a'`, `x'`, `v'` the other's. Assumes nothing.
use mathlib.Core.Path.{◌≡◌, ap, sym, subst, ◌∙◌}
use lib.ListN.{length}
use borrow.Fn.Kinds.{Dens, ended_of}
use contract.Lifetimes.{Lfts}
use denote.Triple.Clauses.{Lasts, at_exit}
use Rattle.std.specs.Prelude.{ℕ, Result}
use Rattle.refusals.specs.declared.Refusal.{Refusal}
use Rattle.algebra.specs.Outcome.{outcome}
use Rattle.algebra.proofs.Outcomes.{outcome_one}
use Rattle.dual.specs.Rules.{dual_algebra, dual_layout}
use Rattle.dual.specs.Laws.{dual_lawful, dual_agrees, dual_reals}
use Rattle.jacobi.specs.Entry.{JacobiLeft, jacobi_answered, jacobi_left}
use Rattle.jacobi.specs.SameReals.{SameAbove, SameJacobi}
use Rattle.jacobi.proofs.Slopes.{jacobi_same, below_no_effect}
use Rattle.jacobi.proofs.jacobi_eigenvalue as entry

module _ (κs κs' : Lfts 3) (a : Dens κs entry.Kinds.ps) (a' : Dens κs' entry.Kinds.ps) (x x' : Result ℕ Refusal)
    (v : Lasts (ended_of 3 entry.Kinds.ps entry.Kinds.r) κs a) (v' : Lasts (ended_of 3 entry.Kinds.ps entry.Kinds.r) κs' a')
    (p : entry.Reads.Post κs a x (at_exit (ended_of 3 entry.Kinds.ps entry.Kinds.r) κs a v))
    (p' : entry.Reads.Post κs' a' x' (at_exit (ended_of 3 entry.Kinds.ps entry.Kinds.r) κs' a' v'))
    (n : a.0 ≡ a'.0) (limit : a.1.1.0 ≡ a'.1.1.0) where
  -- what the second call leaves, by the size and the limit of the first
  second : jacobi_answered (outcome x') v'.1.1.1.0 v'.1.1.1.1.0
      ≡ jacobi_left dual_algebra dual_layout a.0 a'.1.0.now a.1.1.0 a'.1.1.1.0.now a'.1.1.1.1.0.now
  second = p' ∙ (λ i. jacobi_left dual_algebra dual_layout (sym n i) a'.1.0.now (sym limit i) a'.1.1.1.0.now a'.1.1.1.1.0.now)

  pub jacobi_never_steered : SameAbove 2 a.0 1 a.1.0.now a'.1.0.now
      → length a.1.1.1.0.now ≡ length a'.1.1.1.0.now → length a.1.1.1.1.0.now ≡ length a'.1.1.1.1.0.now
      → SameJacobi 2 (jacobi_answered (outcome x) v.1.1.1.0 v.1.1.1.1.0) (jacobi_answered (outcome x') v'.1.1.1.0 v'.1.1.1.1.0)
  jacobi_never_steered alike d w =
      subst (λ (l : JacobiLeft). SameJacobi 2 l (jacobi_answered (outcome x') v'.1.1.1.0 v'.1.1.1.1.0)) (sym p)
      (subst (SameJacobi 2 (jacobi_left dual_algebra dual_layout a.0 a.1.0.now a.1.1.0 a.1.1.1.0.now a.1.1.1.1.0.now)) (sym second)
      (jacobi_same dual_algebra dual_layout dual_lawful dual_agrees a.0 dual_reals a.1.0.now a'.1.0.now a.1.1.0 _ _ _ _ alike d w))

  pub jacobi_below_unread : SameAbove 2 a.0 2 a.1.0.now a'.1.0.now → a.1.1.1.0.now ≡ a'.1.1.1.0.now → a.1.1.1.1.0.now ≡ a'.1.1.1.1.0.now
      → (x ≡ x') × ((v.1.1.1.0 ≡ v'.1.1.1.0) × (v.1.1.1.1.0 ≡ v'.1.1.1.1.0))
  jacobi_below_unread alike d w =
      let e = p ∙ below_no_effect dual_algebra dual_layout dual_lawful dual_agrees a.0 a.1.0.now a'.1.0.now a.1.1.0 a.1.1.1.0.now a.1.1.1.1.0.now alike
      ∙ (λ i. jacobi_left dual_algebra dual_layout a.0 a'.1.0.now a.1.1.0 (d i) (w i)) ∙ sym second in
      (outcome_one x x' (ap (λ (l : JacobiLeft). l.answer) e), (ap (λ (l : JacobiLeft). l.values) e, ap (λ (l : JacobiLeft). l.vectors) e))
