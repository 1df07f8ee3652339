-- The loop keeps: the columns left to run give the inverse (StartsWritten).
use borrow.Author.Rules.{rules}
use Rattle.matrices.specs.Matrix.{Square}
use Rattle.matrices.proofs.Places.{strided_column}
use Rattle.matrices.proofs.Turns.{run_turn, run_end}
use Rattle.matrices.proofs.StartsWritten.{inverse_start}
use Rattle.substitution.proofs.inverse_run.Goals as goal

pub loop-j-init : goal.loop-j-init
loop-j-init g c = search (rules, inverse_start g.met.R.Record.laws)

pub loop-j-preserved : goal.loop-j-preserved
loop-j-preserved g c = search (rules, run_turn g.met.R.Record.laws)

pub returns : goal.returns
returns g c = search (rules, run_end g.met.R.Record.laws)
