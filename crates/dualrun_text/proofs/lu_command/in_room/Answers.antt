-- The buffers are the first part of the largest, which n fits.
use Rattle.std.proofs.Common.{rules}
use Rattle.dualrun_text.proofs.Commands.{lu_in_room_lem}
use Rattle.dualrun_text.proofs.lu_command.in_room.Goals as goal

pub returns : goal.returns
returns c = search (rules, lu_in_room_lem)
