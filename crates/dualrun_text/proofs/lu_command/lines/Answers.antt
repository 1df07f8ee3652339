-- The three parts one after the other, or a refusal by its number and column.
use Rattle.std.proofs.Common.{rules}
use Rattle.dualrun_text.proofs.Commands.{lu_refused, lu_done}
use Rattle.dualrun_text.proofs.lu_command.lines.Goals as goal

pub returns-in-Ok : goal.returns-in-Ok
returns-in-Ok c = search (rules, lu_done)
