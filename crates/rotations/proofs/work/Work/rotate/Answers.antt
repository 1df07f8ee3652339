-- The four calls turn the four buffers, each by the definition's own step; both vectors hold the values p and q.
use native.Mathlib.Omega.{arith}
use Rattle.dual.specs.Rules.{dual_algebra}
use Rattle.rotations.proofs.Held.{value_held}
use Rattle.rotations.proofs.Turned.{rotate_by}
use Rattle.rotations.proofs.work.Work.rotate.Goals as goal

-- what the diagonal gained, and the diagonal
pub shift-requires : goal.shift-requires
shift-requires c = let v = c.args.self.now.gains in record { p_held = value_held _ _ _ v (omega arith); q_held = value_held _ _ _ v (omega arith) }

pub shift-requires-2 : goal.shift-requires-2
shift-requires-2 c = let v = c.args.self.now.values in record { p_held = value_held _ _ _ v (omega arith); q_held = value_held _ _ _ v (omega arith) }

-- the four calls
pub returns-clause-work_after : goal.returns-clause-work_after
returns-clause-work_after c = rotate_by dual_algebra _ _ _ _ _ _ _ _ _ _ _ _ _ _ _ c.turn_above.ensures.a_after c.turn_columns.ensures.a_after c.shift-2.ensures c.shift.ensures
