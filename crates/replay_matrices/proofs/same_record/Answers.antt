-- The record is written to its width of floats: they are its parts.
use Rattle.std.proofs.Common.{rules, arith, Float}
use Rattle.std.proofs.lemmas.List.{length-take-le}
use Rattle.algebra.proofs.Cells.{held}
use Rattle.algebra.proofs.Cells.{one_written}
use Rattle.replay_matrices.proofs.same_record.Goals as goal

pub write-requires : goal.write-requires
write-requires g c =
    let Q = g.met.R.Record.laws in
    let narrow = Q.narrow in
    let width = c.width.ensures in
    held Q _ 0 (omega (arith, length-take-le {A = Float} c.width.result))

pub returns : goal.returns
returns g c =
    let Q = g.met.R.Record.laws in
    let narrow = Q.narrow in
    let width = c.width.ensures in
    let kept = c.write.auto.floats in
    let parts = one_written Q c.write.new.floats _ c.args.x (omega (arith, length-take-le {A = Float} c.width.result)) c.write.ensures in
    rw (← parts) (search rules)
