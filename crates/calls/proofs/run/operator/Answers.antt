-- By the lengths alone: the line of an operation on two records is known (Entries).
use Rattle.std.proofs.Common.{rules, arith}
use Rattle.algebra.proofs.Cells.{held}
use Rattle.calls.specs.Called.{kind_of}
use Rattle.calls.proofs.Entries.{operated, operated_records, operated_out}
use Rattle.calls.proofs.run.operator.Goals as goal

pub returns-then-records-width : goal.returns-then-records-width
returns-then-records-width g c = let R = g.R.Record in search (rules, operated_records (kind_of R.algebra R.layout R.NDERIV R.derivatives))

pub returns-then-out-width : goal.returns-then-out-width
returns-then-out-width g c = let R = g.R.Record in search (rules, operated_out (kind_of R.algebra R.layout R.NDERIV R.derivatives))

pub read-x-requires : goal.read-x-requires
read-x-requires g c = let narrow = g.met.R.Record.laws.narrow in held g.met.R.Record.laws c.read.new.floats 0 (omega arith)

pub read-y-requires : goal.read-y-requires
read-y-requires g c = let narrow = g.met.R.Record.laws.narrow in held g.met.R.Record.laws c.read.new.floats 1 (omega arith)

pub returns : goal.returns
returns g c = let R = g.R.Record in search (rules, operated (kind_of R.algebra R.layout R.NDERIV R.derivatives) g.met.R.Record.laws)
