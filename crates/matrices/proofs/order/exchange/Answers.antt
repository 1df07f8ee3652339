-- The slice's own swap is the definition's two stores.
use mathlib.Core.Path.{sym, ◌∙◌}
use Rattle.std.proofs.lemmas.List.Edits.{swap_is}
use Rattle.matrices.specs.Matrix.{exchange}
use Rattle.matrices.proofs.order.exchange.Goals as goal

pub returns : goal.returns
unfolding exchange
returns c = c.swap.ensures.after ∙ sym (swap_is c.args.order.now c.args.p c.args.q 0 c.requires.0 c.requires.1)
