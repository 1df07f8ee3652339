-- The loop keeps: what is left to exchange gives the columns exchanged whole.
use borrow.Author.Rules.{rules}
use Rattle.dual.specs.Laws.{dual_laws}
use Rattle.matrices.proofs.Places.{square_kept}
use Rattle.rotations.proofs.Held.{cell_held}
use Rattle.matrices.proofs.Turns.{run_turn, run_end}
use Rattle.jacobi.specs.Sort.{exchange_in_row, exchange_columns}
use Rattle.jacobi.proofs.sort.exchange_columns.Goals as goal

-- before the first turn the whole is left to exchange
pub loop-l-init : goal.loop-l-init
unfolding exchange_columns
loop-l-init c = search rules

-- both places are in row l
pub exchange-requires : goal.exchange-requires
exchange-requires c = let s = square_kept _ _ _ _ c.requires.square c.loop-l.invariant.size in record { p_held = cell_held _ _ _ _ s c.loop-l-test.true c.requires.columns_in_matrix.0; q_held = cell_held _ _ _ _ s c.loop-l-test.true c.requires.columns_in_matrix.1 }

-- a turn exchanges within its row
pub loop-l-preserved : goal.loop-l-preserved
unfolding exchange_in_row
loop-l-preserved c = search (rules, run_turn dual_laws)

pub returns : goal.returns
returns c = search (rules, run_end dual_laws, square_kept)
