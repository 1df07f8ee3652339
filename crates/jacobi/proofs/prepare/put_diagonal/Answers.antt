-- The loop keeps: what is left to put gives the whole diagonal, in both vectors.
use borrow.Author.Rules.{rules}
use native.Mathlib.Omega.{arith}
use mathlib.Core.Path.{ap}
use Rattle.algebra.proofs.Loop.{upto_turn, upto_end}
use Rattle.dual.specs.Laws.{dual_laws}
use Rattle.dual.specs.Rules.{dual_records}
use Rattle.rotations.proofs.Held.{value_held}
use Rattle.jacobi.proofs.Started.{diagonal_turn}
use Rattle.jacobi.proofs.prepare.put_diagonal.Goals as goal

pub write-requires : goal.write-requires
write-requires c = value_held _ _ _ c.loop-i.work.values (omega arith)

pub write-requires-in-loop-i : goal.write-requires-in-loop-i
write-requires-in-loop-i c = value_held _ _ _ c.loop-i.invariant.sums c.loop-i-test.true

-- a turn writes the entry that it read into both
pub loop-i-preserved : goal.loop-i-preserved
loop-i-preserved c =
    let k = c.loop-i.invariant in
    let a = ap dual_records k.others.a in record {
      same = search rules;
      others = search rules;
      sums = search rules;
      d = upto_turn _ _ _ _ _ c.loop-i-test.true (diagonal_turn dual_laws _ _ _ _ _ _ _ _ k.same.n a c.entry-x.ensures c.write.ensures) k.d;
      bw = upto_turn _ _ _ _ _ c.loop-i-test.true (diagonal_turn dual_laws _ _ _ _ _ _ _ _ k.same.n a c.entry-x.ensures c.write-in-loop-i.ensures) k.bw;
    }

pub returns-clause-d_after : goal.returns-clause-d_after
returns-clause-d_after c = upto_end _ _ _ _ c.loop-i-test.false c.loop-i.invariant.d

pub returns-clause-bw_after : goal.returns-clause-bw_after
returns-clause-bw_after c = upto_end _ _ _ _ c.loop-i-test.false c.loop-i.invariant.bw
