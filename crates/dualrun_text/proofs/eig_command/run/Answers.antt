-- A refusal of the first line is printed; else n is small enough for the buffers.
use Rattle.std.proofs.Common.{rules}
use Rattle.dualrun_text.proofs.Commands.{eig_fits, eig_line_refused, eig_goes_on}
use Rattle.dualrun_text.proofs.eig_command.run.Goals as goal

pub returns-in-Err : goal.returns-in-Err
returns-in-Err c = eig_line_refused _ _ _ _ _ _ c.in-Err.refusal _ c.number.ensures c.in-Err.ensures c.pair.ensures

pub returns : goal.returns
returns c = eig_goes_on _ _ _ _ _ _ c.in_default.ensures c.in_room.ensures
