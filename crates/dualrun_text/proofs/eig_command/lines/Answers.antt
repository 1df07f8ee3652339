-- The three parts one after the other, or a refusal by its number.
use Rattle.std.proofs.Common.{rules}
use Rattle.dualrun_text.proofs.Commands.{eig_refused, eig_done}
use Rattle.dualrun_text.proofs.eig_command.lines.Goals as goal

pub returns-in-Ok : goal.returns-in-Ok
returns-in-Ok c = search (rules, eig_done)
