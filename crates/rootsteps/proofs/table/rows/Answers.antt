-- The loop keeps: what is written so far and the rows of the bits to come are all the rows (Stepping). Assumes nothing.
use Rattle.std.proofs.Common.{◌≡◌, ◌-◌, arith, rules}
use Rattle.rootsteps.proofs.Rows.{stepping_none, stepping_within, stepping_more, stepping_all, stepping_last}
use Rattle.rootsteps.proofs.table.rows.Goals as goal

pub loop-bit-init : goal.loop-bit-init
loop-bit-init c = search (rules, stepping_none)

-- one row more
pub loop-bit-preserved : goal.loop-bit-preserved
loop-bit-preserved c = stepping_more _ _ _ _ _ _ _ c.loop-bit.invariant _ _ _ (omega arith) c.next_bit-next.ensures c.row.ensures

pub returns : goal.returns
returns c =
    let none : c.args.bits - c.loop-bit._bit ≡ 0 = omega arith in
    let so_far = c.loop-bit.invariant in
    record { put = stepping_all _ _ _ _ _ _ _ so_far none; last = stepping_last _ _ _ _ _ _ _ so_far none }
