-- The records are read of the words, then the method is compared (Answered).
use Rattle.std.proofs.Common.{rules, arith}
use Rattle.algebra.proofs.Cells.{held}
use Rattle.replay_methods.proofs.Answered.{same_lent}
use Rattle.replay_methods.proofs.same.Goals as goal

pub read-x-requires : goal.read-x-requires
read-x-requires g c = let narrow = g.met.R.Record.laws.narrow in held g.met.R.Record.laws c.read.new.floats 0 (omega arith)

pub read-y-requires : goal.read-y-requires
read-y-requires g c = let narrow = g.met.R.Record.laws.narrow in held g.met.R.Record.laws c.read.new.floats 1 (omega arith)

pub returns : goal.returns
returns g c = search (rules, same_lent g.met.R.Record.laws)
