-- Lines that are not as they should be are unreadable; the floats of good ones go to the entry.
use Rattle.std.proofs.Common.{◌≡◌, ◌*◌, length, rules}
use Rattle.dualrun_text.proofs.Commands.{eig_unread, eig_read}
use Rattle.dualrun_text.proofs.eig_command.of_lines.Goals as goal

pub returns-in-Err : goal.returns-in-Err
returns-in-Err c =
    let sized : length c.args.matrix.now ≡ c.args.n * c.args.n * 2 = search rules in
    eig_unread _ _ _ _ _ _ sized c.in-Err.ensures.0 _ _ _ _ c.in-Err.ensures.1 c.refusal.ensures

pub returns : goal.returns
returns c =
    let sized : length c.args.matrix.now ≡ c.args.n * c.args.n * 2 = search rules in
    eig_read _ _ _ _ _ _ sized _ c.in_default.ensures.0 c.in_default.ensures.1 _ _ _ _ c.jacobi_eigenvalue-answer.ensures c.lines.ensures
