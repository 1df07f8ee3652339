-- Tests that refuse nothing allow the work; each way out is one of the promise (EntriesAnswered).
use mathlib.Core.Path.{ap, ◌∙◌}
use Rattle.std.specs.Prelude.{Err}
use Rattle.std.proofs.lemmas.Result.{err_from_is_err_and}
use Rattle.matrices.proofs.EntriesAnswered.{lu_allowed, lu_answers, lu_unfit}
use Rattle.lu.proofs.lu.Goals as goal

pub returns-in_err-lu : goal.returns-in_err-lu
returns-in_err-lu g c =
    let p = err_from_is_err_and c.from_residual.result c.from_residual.ensures.1 in
    lu_unfit g.met.R.Record.laws _ _ _ c.width.ensures _ c.args.factors.now c.args.order.now c.lu.ensures _ _ c.in_err-lu.was (p.1 ∙ ap Err p.2)

pub returns : goal.returns
returns g c = lu_answers g.met.R.Record.laws _ _ _ c.width.ensures _ c.args.factors.now c.args.order.now c.lu.ensures _ _ c.in_ok-lu.was c.factor.ensures
