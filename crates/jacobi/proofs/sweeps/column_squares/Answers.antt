-- The loop keeps: what is left to add gives the column's whole sum.
use borrow.Author.Rules.{rules}
use Rattle.dual.specs.Rules.{dual_algebra}
use Rattle.jacobi.proofs.Swept.{square_turn}
use Rattle.jacobi.proofs.sweeps.column_squares.Goals as goal

pub loop-i-preserved : goal.loop-i-preserved
loop-i-preserved c = search (rules, square_turn dual_algebra)
