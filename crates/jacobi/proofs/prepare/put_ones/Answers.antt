-- The loop keeps: what is left to put gives the whole diagonal.
use borrow.Author.Rules.{rules}
use Rattle.dual.specs.Laws.{dual_laws}
use Rattle.matrices.proofs.Turns.{run_turn, run_end}
use Rattle.jacobi.specs.Sweeps.{put_one}
use Rattle.jacobi.proofs.prepare.put_ones.Goals as goal

-- a turn puts one
pub loop-i-preserved : goal.loop-i-preserved
unfolding put_one
loop-i-preserved c = (c.put.ensures.still_square, run_turn dual_laws _ _ _ _ _ _ _ c.loop-i.invariant.1 c.loop-i-test.true (search rules) (rw c.one.ensures at c.put.ensures.a_after))

pub returns : goal.returns
returns c = search (rules, run_end dual_laws)
