-- A value leaves its parts, a refusal its number, where out is one record (Entries).
use Rattle.std.proofs.Common.{rules, arith, ◌≡◌}
use Rattle.algebra.specs.Outcome.{outcome, value}
use Rattle.algebra.proofs.Cells.{held}
use Rattle.calls.specs.Called.{kind_of}
use Rattle.calls.proofs.Entries.{join_value}
use Rattle.calls.proofs.run.leave.Goals as goal

pub write-requires : goal.write-requires
write-requires g c = let Q = g.met.R.Record.laws in let w = c.width.ensures in held Q c.args.out.now 0 (omega arith)

pub returns : goal.returns
returns g c =
    let R = g.R.Record in
    let told : outcome c.args.answer ≡ value c.in_ok-answer.field-0 = rw c.in_ok-answer.was in
    search (rules, join_value (kind_of R.algebra R.layout R.NDERIV R.derivatives) g.met.R.Record.laws)
