-- The loop keeps: what is left to select gives the whole order.
use borrow.Author.Rules.{rules}
use Rattle.algebra.proofs.Loop.{upto_turn, upto_end}
use Rattle.jacobi.specs.Sort.{sort}
use Rattle.jacobi.proofs.sort.sort.Goals as goal

-- before the first turn the whole is left to select
pub loop-k-init : goal.loop-k-init
unfolding sort
loop-k-init c = record { same = search rules; rest = search rules }

pub loop-k-preserved : goal.loop-k-preserved
loop-k-preserved c =
    let k = c.loop-k.invariant in
    record { same = search rules; rest = upto_turn _ _ _ _ _ c.loop-k-test.true (rw k.same.n at c.select.ensures.pairs_after) k.rest }

pub returns-clause-pairs_after : goal.returns-clause-pairs_after
returns-clause-pairs_after c = upto_end _ _ _ _ c.loop-k-test.false c.loop-k.invariant.rest
