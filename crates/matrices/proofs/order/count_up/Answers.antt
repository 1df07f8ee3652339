-- All entries are passed, so that they are the table of the definition.
use native.Mathlib.Omega.{arith}
use Rattle.floats.proofs.Fill.{filling_all}
use Rattle.matrices.proofs.order.count_up.Goals as goal

pub returns : goal.returns
returns c = filling_all _ _ _ _ _ c.loop-i.invariant (omega arith)
