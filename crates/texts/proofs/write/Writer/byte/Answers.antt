-- Room or no room: the page's own test.
use Rattle.std.proofs.Common.{refl, lt-ltb, le-ltb}
use Rattle.texts.specs.Page.{written}
use Rattle.texts.proofs.write.Writer.byte.Goals as goal

pub returns-then-self : goal.returns-then-self
unfolding written
returns-then-self c = record { lent = refl; put = simp (lt-ltb _ _ c.if-self.true) }

-- the page is full
pub returns-else-self : goal.returns-else-self
unfolding written
returns-else-self c = record { lent = refl; put = simp (le-ltb _ _ c.if-self.false) }
