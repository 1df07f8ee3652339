-- A sweep's work stays on the same floats from step to step. Assumes nothing.
use mathlib.Core.Path.{◌∙◌}
use Rattle.rotations.specs.declared.work.Work.{Work}
use Rattle.rotations.specs.Buffers.{SameWork}

pub same_work : (x y z : Work) → SameWork x y → SameWork y z → SameWork x z
same_work x y z h k = record { n = k.n ∙ h.n; a = k.a ∙ h.a; v = k.v ∙ h.v; d = k.d ∙ h.d; zw = k.zw ∙ h.zw }
