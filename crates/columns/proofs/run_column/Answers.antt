-- The pivot brought up in floats is the definition's; each way out is one of the column's (ColumnsRun).
use mathlib.Core.Path.{ap, ◌∙◌}
use native.Mathlib.Omega.{arith}
use borrow.Author.Rules.{rules}
use Rattle.std.specs.Prelude.{Err}
use Rattle.std.proofs.lemmas.Result.{err_from_is_err_and}
use Rattle.matrices.proofs.ColumnsRun.{column_stops, column_goes}
use Rattle.columns.proofs.run_column.Goals as goal

pub returns-in_err-swaps : goal.returns-in_err-swaps
returns-in_err-swaps g c =
    let p = err_from_is_err_and c.from_residual.result c.from_residual.ensures.1 in
    let s = c.requires in
    record {
      result_bound = rw p.1 (omega arith);
      swaps_value = column_stops g.met.R.Record.laws _ _ _ _ _ _ _ _ _ c.width.ensures s.square s.i_lt_n c.bring_pivot.ensures.order_after _ _ c.in_err-swaps.was (p.1 ∙ ap Err p.2);
    }

pub returns : goal.returns
returns g c =
    let s = c.requires in
    record {
      result_bound = search rules;
      swaps_value = column_goes g.met.R.Record.laws _ _ _ _ _ _ _ _ _ c.width.ensures s.square s.i_lt_n c.bring_pivot.ensures.order_after _ _ c.in_ok-swaps.was c.reduce_rows.ensures;
    }
