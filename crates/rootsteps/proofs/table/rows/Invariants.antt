-- The loop keeps: what is written so far and the rows of the bits to come are all the rows (Stepping). Assumes nothing.
use Rattle.std.proofs.Common.{◌-◌, ◌*◌}
use Rattle.rootsteps.specs.Start.{top_of, start_of}
use Rattle.rootsteps.proofs.Rows.{Stepping}
use Rattle.rootsteps.proofs.table.rows.Given as goal

abbrev pub invariant-loop-bit : goal.invariant-loop-bit
invariant-loop-bit l = Stepping (l.significand * top_of l.bits) (l.bits - 1) (start_of l.significand l.bits) l.initial.page l.page l.found (l.bits - l._bit)
