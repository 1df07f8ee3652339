-- The two rows, as parts of what lies before row q and from it on, take each other's place (RowsSwapped).
use native.Mathlib.Omega.{arith}
use Rattle.matrices.proofs.RowsSwapped.{sliced}
use Rattle.matrices.proofs.rows.exchange_rows.Goals as goal

pub returns : goal.returns
returns c =
    let s = c.split_at_mut-above.ensures in
    sliced _ c.args.k c.args.p c.args.q _ c.args.a.now _ _ _ _ c.requires.p_lt_q c.requires.whole (omega arith) s.value s.front_len c.swap_with_slice.ensures.after c.swap_with_slice.ensures.other_after
