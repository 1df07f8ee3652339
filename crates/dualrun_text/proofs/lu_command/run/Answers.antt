-- A refusal of the first line is printed; else n is small enough for the buffers.
use Rattle.std.proofs.Common.{rules}
use Rattle.dualrun_text.proofs.Commands.{lu_fits, lu_line_refused, lu_goes_on}
use Rattle.dualrun_text.proofs.lu_command.run.Goals as goal

pub returns-in-Err : goal.returns-in-Err
returns-in-Err c = lu_line_refused _ _ _ _ _ c.in-Err.refusal _ c.number.ensures c.in-Err.ensures c.pair.ensures

pub returns : goal.returns
returns c = lu_goes_on _ _ _ _ _ c.in_default.ensures c.in_room.ensures
