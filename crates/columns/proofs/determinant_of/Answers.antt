-- The loop keeps: the diagonal's product and the order's marks, each as far as the turn (DiagonalWalk).
use borrow.Author.Rules.{rules}
use native.Mathlib.Omega.{arith}
use Rattle.matrices.proofs.Held.{square_held}
use Rattle.matrices.proofs.DiagonalWalk.{walking, walk_bit, walk_turn, walk_stop, walk_refused, walk_end}
use Rattle.columns.proofs.determinant_of.Goals as goal

pub loop-i-init : goal.loop-i-init
loop-i-init g c = rw (c.none-marks.ensures, c.one-x.ensures) (walking g.met.R.Record.laws _ _ _)

pub returns-then-k-n : goal.returns-then-k-n
returns-then-k-n g c = search (rules, walk_stop g.met.R.Record.laws)

-- a record of the diagonal
pub read-requires : goal.read-requires
read-requires g c = search (rules, square_held g.met.R.Record.laws)

-- one entry marked, one record multiplied
pub loop-i-preserved : goal.loop-i-preserved
loop-i-preserved g c = walk_turn g.met.R.Record.laws c.loop-i.invariant _ _ _ (search rules) (search rules) (search rules) (search rules) (search rules) c.read.ensures (search rules)

pub returns-in_err-walked : goal.returns-in_err-walked
returns-in_err-walked g c = search (rules, walk_refused g.met.R.Record.laws)

pub returns : goal.returns
returns g c = walk_end g.met.R.Record.laws _ _ _ _ _ _ _ _ c.loop-i.invariant (omega arith) c.requires.square c.requires.order_len c.walked.ensures _ _ c.in_ok-walked.was c.signed.ensures
