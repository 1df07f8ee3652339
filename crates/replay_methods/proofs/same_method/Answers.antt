-- The comparisons are those of the real parts (Comparisons); each other arm is the method of its number.
use Rattle.std.proofs.Common.{rules}
use Rattle.records.proofs.Comparisons.{le_by, gt_by, ge_by}
use Rattle.replay_methods.specs.Methods.{same_method}
use Rattle.replay_methods.proofs.same_method.Goals as goal

pub returns-in-61 : goal.returns-in-61
unfolding same_method
returns-in-61 g c = search (rules, le_by g.R.Record.algebra.re _ g.met.R.Compared.ordered)

pub returns-in-62 : goal.returns-in-62
unfolding same_method
returns-in-62 g c = search (rules, gt_by g.R.Record.algebra.re _ g.met.R.Compared.ordered)

pub returns-in-63 : goal.returns-in-63
unfolding same_method
returns-in-63 g c = search (rules, ge_by g.R.Record.algebra.re _ g.met.R.Compared.ordered)
