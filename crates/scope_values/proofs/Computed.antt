-- Every claim of the two tables holds, by computing the definitions. Assumes nothing.
use lib.Dec.{T}
use lib.Ieee.{of_bits, to_bits, round, add, sub, mul, div, neg, lt, le, eq, of_int}
use Rattle.real.specs.Root.{root_of}
use Rattle.real.specs.Sign.{sign_of, abs_of}
use Rattle.algebra.specs.Loop.{turns, upto}
use Rattle.algebra.specs.Flat.{tabulate, decode, encode}
use Rattle.derivatives.specs.Series.{recip_series, powi_series, sqrt_series}
use Rattle.dual.specs.Rules.{dual_chain, dual_mul, dual_div, dual_add, dual_sub, dual_neg, dual_mul_float}
use Rattle.dual3.specs.Rules.{dual3_chain, dual3_mul, dual3_sub, dual3_div_float}
use Rattle.hyperhyperdual.specs.Rules.{hyper_hyper_dual_mul, hyper_hyper_dual_sub, hyper_hyper_dual_div_float}
use Rattle.matrices.specs.Matrix.{exchange, exchange_rows, cell, store}
use Rattle.matrices.specs.Lu.{better, bring_pivot, pivot_of, subtract, reduce_row, reduce, column, lu_of}
use Rattle.matrices.specs.Determinant.{diagonal_product, determinant_of}
use Rattle.orders.specs.Order.{absent, is_order, odd_below, parity, is_odd}
use Rattle.matrices.specs.Entries.{lu_left, solve_left, inverse_left, determinant_left}
use Rattle.rotations.specs.Rotation as turn
use Rattle.jacobi.specs.Sweeps as sweeps
use Rattle.jacobi.specs.Sort as sort
use Rattle.jacobi.specs.Entry.{jacobi_left}
use Rattle.scope_values.specs.Table.{same, every, table, wishes}

pub values : T (every table)
unfolding same every table of_bits to_bits add sub mul div neg lt le eq of_int root_of sign_of abs_of turns upto tabulate decode encode recip_series powi_series sqrt_series dual_chain dual_mul dual_div dual_add dual_sub dual_neg dual_mul_float dual3_chain exchange exchange_rows cell store better bring_pivot pivot_of subtract reduce_row reduce column lu_of diagonal_product determinant_of absent is_order odd_below parity is_odd lu_left solve_left inverse_left determinant_left turn.absorbed turn.choice_of turn.hypotenuse_of turn.tangent_of turn.rotation_tangent turn.angle_by turn.turned_first turn.turned_second turn.shift turn.turn turn.turn_columns turn.turn_between turn.turn_rows turn.turn_above turn.rotate turn.act turn.pair sweeps.add_square sweeps.column_squares sweeps.sum_of_squares sweeps.threshold_of sweeps.row sweeps.sweep sweeps.add_item sweeps.add_all sweeps.close_sweep sweeps.step sweeps.put_one sweeps.identity sweeps.put_diagonal sweeps.diagonal sweeps.start sweeps.sweeps_of sort.smaller sort.least sort.exchange_in_row sort.exchange_columns sort.bring_smallest sort.select sort.sort sort.ordered sort.jacobi_of jacobi_left
values = tt

pub wished : T (every wishes)
unfolding same every wishes of_bits to_bits round add sub mul div lt sign_of abs_of dual3_mul dual3_sub dual3_div_float hyper_hyper_dual_mul hyper_hyper_dual_sub hyper_hyper_dual_div_float
wished = tt
