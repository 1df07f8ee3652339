-- What fits of the text is a part of the buffer, replaced.
use Rattle.std.proofs.Common.{refl, arith, rules}
use Rattle.texts.proofs.Page.{some_put, none_put}
use Rattle.texts.proofs.write.Writer.bytes.Goals as goal

pub returns-then-self-end : goal.returns-then-self-end
returns-then-self-end c = record { lent = refl; put = some_put c.args.self.now.out.now c.args.self.now.used c.args.text.now c.fitting-count.result c.fitting-count.ensures _ _ (omega arith) (search rules) (omega arith) }

pub returns-else-self-end : goal.returns-else-self-end
returns-else-self-end c = record { lent = refl; put = none_put _ _ _ _ c.fitting-count.ensures (omega arith) }
