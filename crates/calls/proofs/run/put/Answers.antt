-- The record is written to its width of floats, then their words (Entries).
use Rattle.std.proofs.Common.{arith, Float}
use Rattle.std.proofs.lemmas.List.{length-take-le}
use Rattle.algebra.proofs.Cells.{held}
use Rattle.calls.specs.Called.{kind_of}
use Rattle.calls.proofs.Entries.{put_words}
use Rattle.calls.proofs.run.put.Goals as goal

pub write-requires : goal.write-requires
write-requires g c =
    let Q = g.met.R.Record.laws in
    let narrow = Q.narrow in
    let width = c.width.ensures in
    held Q _ 0 (omega (arith, length-take-le {A = Float} c.width.result))

pub returns : goal.returns
returns g c =
    let R = g.R.Record in
    let Q = g.met.R.Record.laws in
    let narrow = Q.narrow in
    let width = c.width.ensures in
    let kept = c.write.auto.floats in
    put_words (kind_of R.algebra R.layout R.NDERIV R.derivatives) Q _ _ _ _ c.put.ensures (omega (arith, length-take-le {A = Float} c.width.result)) c.write.ensures
