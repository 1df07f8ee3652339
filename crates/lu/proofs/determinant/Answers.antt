-- Tests that refuse nothing allow the work; each way out is one of the promise (EntriesAnswered).
use mathlib.Core.Path.{ap, ◌∙◌}
use Rattle.std.specs.Prelude.{Err}
use Rattle.std.proofs.lemmas.Result.{err_from_is_err_and}
use Rattle.matrices.proofs.EntriesAnswered.{determinant_allowed, determinant_unfit}
use Rattle.lu.proofs.determinant.Goals as goal

pub returns-in_err-determinant : goal.returns-in_err-determinant
returns-in_err-determinant g c =
    let p = err_from_is_err_and c.from_residual.result c.from_residual.ensures.1 in
    determinant_unfit g.met.R.Record.laws _ _ _ c.width.ensures _ c.args.order.now c.determinant.ensures _ _ _ c.in_err-determinant.was (p.1 ∙ ap Err p.2)
