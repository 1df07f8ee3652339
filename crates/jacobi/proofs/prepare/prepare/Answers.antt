-- Cleared floats are records of zero, from which the ones and the diagonal are put, beside a copy of the matrix.
use mathlib.Core.Path.{ap, ◌∙◌}
use Rattle.dual.specs.Laws.{dual_laws}
use Rattle.dual.specs.Rules.{dual_records}
use Rattle.jacobi.proofs.Scratch.{blank}
use Rattle.jacobi.proofs.Started.{diagonal_by, start_by}
use Rattle.jacobi.proofs.prepare.prepare.Goals as goal

pub returns-clause-run_after : goal.returns-clause-run_after
returns-clause-run_after c =
    let p = c.put_diagonal.ensures in
    let w = c.args.work.now in
    start_by dual_laws _ _ _ _ _ _ _
    (p.others.a ∙ c.copy.ensures)
    (ap dual_records p.others.v ∙ c.identity.ensures.v_after)
    (diagonal_by dual_laws _ _ _ _ _ w.values.full (c.fill.ensures.after (λ y e. e)) (rw c.copy.ensures at p.d_after))
    (diagonal_by dual_laws _ _ _ _ _ c.requires.sums.full (c.fill-3.ensures.after (λ y e. e)) (rw c.copy.ensures at p.bw_after))
    (ap dual_records p.others.zw ∙ blank dual_laws _ _ _ w.gains.full (c.fill-2.ensures.after (λ y e. e)))
