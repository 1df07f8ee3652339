-- The loop keeps: what is left to add gives the sums whole.
use borrow.Author.Rules.{rules}
use Rattle.dual.specs.Laws.{dual_laws}
use Rattle.matrices.proofs.Turns.{run_turn, run_end}
use Rattle.rotations.proofs.Held.{value_held}
use Rattle.jacobi.specs.Sweeps.{add_item, add_all}
use Rattle.jacobi.proofs.Scratch.{vector_kept}
use Rattle.jacobi.proofs.sweeps.add_all.Goals as goal

-- before the first turn the whole is left to add
pub loop-i-init : goal.loop-i-init
unfolding add_all
loop-i-init c = search rules

pub read-x-requires : goal.read-x-requires
read-x-requires c = value_held _ _ _ (vector_kept _ _ _ c.requires.vectors.1 c.loop-i.invariant.size) c.loop-i-test.true

pub read-requires : goal.read-requires
read-requires c = value_held _ _ _ c.requires.vectors.0 c.loop-i-test.true

pub write-requires : goal.write-requires
write-requires c = value_held _ _ _ (vector_kept _ _ _ c.requires.vectors.1 c.loop-i.invariant.size) c.loop-i-test.true

-- a turn writes the sum of the two records that it read
pub loop-i-preserved : goal.loop-i-preserved
unfolding add_item
loop-i-preserved c = run_turn dual_laws _ _ _ _ _ _ _ c.loop-i.invariant (search rules) (search rules) (cc)

pub returns : goal.returns
returns c = search (rules, run_end dual_laws)
