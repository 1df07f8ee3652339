-- All floats are passed, so that they are the table of the definition.
use native.Mathlib.Omega.{arith}
use Rattle.floats.specs.Words.{first_floats}
use Rattle.floats.proofs.Fill.{filling_all}
use Rattle.floats.proofs.words.read.Goals as goal

pub returns : goal.returns
unfolding first_floats
returns c = filling_all _ _ _ _ _ c.loop-i.invariant (omega arith)
