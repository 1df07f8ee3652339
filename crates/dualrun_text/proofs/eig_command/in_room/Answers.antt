-- The buffers are the first part of the largest, which n fits.
use Rattle.std.proofs.Common.{rules}
use Rattle.dualrun_text.proofs.Commands.{eig_in_room_lem}
use Rattle.dualrun_text.proofs.eig_command.in_room.Goals as goal

pub returns : goal.returns
returns c = search (rules, eig_in_room_lem)
