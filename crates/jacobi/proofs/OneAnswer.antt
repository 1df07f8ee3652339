-- No second outcome meets the promise of the entry: one answer, and one content of each lent buffer. Assumes nothing.
use mathlib.Core.Path.{ap, sym, ◌∙◌}
use borrow.Fn.Kinds.{ended_of}
use denote.Triple.Clauses.{at_exit}
use Rattle.real.proofs.Only.{Only}
use Rattle.algebra.proofs.Outcomes.{outcome_one}
use Rattle.jacobi.specs.Entry.{JacobiLeft}
use Rattle.jacobi.proofs.jacobi_eigenvalue as entry

pub jacobi_only : Only 3 entry.Kinds.ps entry.Kinds.r entry.Reads.Pre entry.Reads.Post
jacobi_only κs a x y v w h p q =
    let e = p ∙ sym q in (
      outcome_one x y (ap (λ (l : JacobiLeft). l.answer) e),
      λ i. at_exit (ended_of 3 entry.Kinds.ps entry.Kinds.r) κs a (v.0, (v.1.0, (v.1.1.0, (ap (λ (l : JacobiLeft). l.values) e i, (ap (λ (l : JacobiLeft). l.vectors) e i, tt))))),
    )
