-- The loop keeps: the columns left to run give LU (ColumnsRun).
use mathlib.Core.Path.{ap, ◌∙◌}
use borrow.Author.Rules.{rules}
use Rattle.std.specs.Prelude.{Err}
use Rattle.std.proofs.lemmas.Result.{err_from_is_err_and}
use Rattle.matrices.proofs.ColumnsRun.{columns_start, columns_turn, columns_stop, columns_end}
use Rattle.columns.proofs.run_columns.Goals as goal

pub loop-i-init : goal.loop-i-init
loop-i-init g c = search (rules, columns_start g.met.R.Record.laws)

pub returns-in_err-swaps : goal.returns-in_err-swaps
returns-in_err-swaps g c =
    let p = err_from_is_err_and c.from_residual.result c.from_residual.ensures.1 in
    columns_stop g.met.R.Record.laws _ _ _ _ _ _ _ _ _ _ _ _ c.loop-i.invariant c.loop-i-test.true c.run_column.ensures.swaps_value c.in_err-swaps.was (p.1 ∙ ap Err p.2)

pub loop-i-preserved : goal.loop-i-preserved
loop-i-preserved g c = search (rules, columns_turn g.met.R.Record.laws)

pub returns : goal.returns
returns g c = search (rules, columns_end g.met.R.Record.laws)
