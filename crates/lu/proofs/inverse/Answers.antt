-- Tests that refuse nothing allow the work; each way out is one of the promise (EntriesAnswered).
use mathlib.Core.Path.{ap, ◌∙◌}
use Rattle.std.specs.Prelude.{Err}
use Rattle.std.proofs.lemmas.Result.{err_from_is_err_and}
use Rattle.matrices.proofs.EntriesAnswered.{inverse_allowed, inverse_answers, inverse_unfit}
use Rattle.lu.proofs.inverse.Goals as goal

pub returns-in_err-inverse : goal.returns-in_err-inverse
returns-in_err-inverse g c =
    let p = err_from_is_err_and c.from_residual.result c.from_residual.ensures.1 in
    inverse_unfit g.met.R.Record.laws _ _ _ c.width.ensures _ _ c.args.out.now c.inverse.ensures _ _ c.in_err-inverse.was (p.1 ∙ ap Err p.2)

-- the lengths are the wanted ones, the order is one
pub inverse_run-requires : goal.inverse_run-requires
inverse_run-requires g c =
    let s = c.args in
    let allowed = inverse_allowed g.met.R.Record.laws _ _ _ c.width.ensures _ _ s.out.now c.inverse.ensures _ c.in_ok-inverse.was in
    record { square = allowed.0; order = allowed.1.0; square_2 = allowed.1.1 }

pub returns : goal.returns
returns g c = inverse_answers g.met.R.Record.laws _ _ _ c.width.ensures _ _ c.args.out.now c.inverse.ensures _ _ c.in_ok-inverse.was c.inverse_run.auto.x c.inverse_run.ensures
