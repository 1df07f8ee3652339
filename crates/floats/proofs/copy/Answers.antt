-- All floats are passed, so that they are those of `from`.
use mathlib.Core.Path.{refl, ◌∙◌}
use native.Mathlib.Omega.{arith}
use lib.ListN.{get_or}
use lib.Ieee.{nan}
use Rattle.floats.proofs.Fill.{filled_all}
use Rattle.floats.proofs.copy.Goals as goal

pub returns : goal.returns
returns c = filled_all nan (λ k. get_or c.args.from.now k nan) _ _ _ (omega arith) (c.loop-i.invariant.long ∙ c.requires) c.loop-i.invariant.filled (λ k h. refl)
