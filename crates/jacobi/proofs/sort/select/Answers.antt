-- Each way out is a case of the definition's one test: the least stands at k already, or is brought there with its column.
use borrow.Author.Rules.{rules}
use native.Mathlib.Omega.{arith}
use Rattle.dual.specs.Rules.{dual_algebra}
use Rattle.rotations.proofs.Held.{value_held}
use Rattle.jacobi.proofs.Ordered.{select_stays, select_moves}
use Rattle.jacobi.proofs.sort.select.Goals as goal

pub exchange-requires : goal.exchange-requires
exchange-requires c = let v = c.args.work.now.values in record { p_held = value_held _ _ _ v (omega arith); q_held = value_held _ _ _ v (omega arith) }

pub returns-then-m-k-clause-pairs_after : goal.returns-then-m-k-clause-pairs_after
returns-then-m-k-clause-pairs_after c = search (rules, select_stays dual_algebra)

pub returns-clause-pairs_after : goal.returns-clause-pairs_after
returns-clause-pairs_after c = select_moves dual_algebra _ _ _ _ _ c.least-m.ensures.value _ _ c.if-m-k.false c.exchange.ensures c.exchange_columns.ensures.v_after
