-- Tests that refuse nothing allow the work; each way out is one of the promise (EntriesAnswered).
use mathlib.Core.Path.{ap, ◌∙◌}
use Rattle.std.specs.Prelude.{Err}
use Rattle.std.proofs.lemmas.Result.{err_from_is_err_and}
use Rattle.matrices.proofs.EntriesAnswered.{solve_allowed, solve_answers, solve_unfit}
use Rattle.lu.proofs.solve.Goals as goal

pub returns-in_err-solve : goal.returns-in_err-solve
returns-in_err-solve g c =
    let p = err_from_is_err_and c.from_residual.result c.from_residual.ensures.1 in
    solve_unfit g.met.R.Record.laws _ _ _ c.width.ensures _ _ c.args.b.now c.args.x.now c.solve.ensures _ _ c.in_err-solve.was (p.1 ∙ ap Err p.2)

-- the lengths are the wanted ones, the order is one
pub solve_run-requires : goal.solve_run-requires
solve_run-requires g c =
    let s = c.args in
    let allowed = solve_allowed g.met.R.Record.laws _ _ _ c.width.ensures _ _ s.b.now s.x.now c.solve.ensures _ c.in_ok-solve.was in
    record { square = allowed.0; order = allowed.1.0; b_len = allowed.1.1.0; x_len = allowed.1.1.1 }

pub returns : goal.returns
returns g c = solve_answers g.met.R.Record.laws _ _ _ c.width.ensures _ _ c.args.b.now c.args.x.now c.solve.ensures _ _ c.in_ok-solve.was c.solve_run.auto.x c.solve_run.ensures
