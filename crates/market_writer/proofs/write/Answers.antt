-- Five ways out, in the order of the definition.
use Rattle.std.proofs.Common.{ap, ◌∙◌, rules}
use Rattle.market.specs.Write.{write_left}
use Rattle.market_writer.proofs.Answering.{zeros_after, write_large, write_floats, write_bytes, write_not, end_inside, write_done}
use Rattle.market_writer.proofs.write.Goals as goal
use Rattle.market_writer.proofs.write.Goals.{then-a-n-via-then-a-n, then-a-n-via-else-a-n+then-text-ne-PAGE}

pub returns-then-n-gt-LARGEST_N : goal.returns-then-n-gt-LARGEST_N
returns-then-n-gt-LARGEST_N g c = search (rules, write_large)

pub returns-then-a-n : goal.returns-then-a-n
returns-then-a-n g c = elim c.then-a-n.branch [ then-a-n-via-then-a-n w ↦ search (rules, write_floats) | then-a-n-via-else-a-n+then-text-ne-PAGE w ↦ search (rules, write_bytes) ]

pub returns-then-not-is_writable : goal.returns-then-not-is_writable
returns-then-not-is_writable g c =
    write_not _ _ _ _ c.if-n-gt-LARGEST_N.false c.if-a-n.false c.if-text-ne-PAGE.false _ c.is_writable.ensures c.if-not-is_writable.true
    ∙ ap (λ w. write_left w c.args.n c.args.a.now c.args.text.now) c.width-width.ensures

pub slice_bounds-fill-count : goal.slice_bounds-fill-count
slice_bounds-fill-count g c = search (rules, end_inside)

pub returns : goal.returns
returns g c =
    write_done _ _ _ _ c.if-n-gt-LARGEST_N.false c.if-a-n.false c.if-text-ne-PAGE.false _ c.is_writable.ensures _ _ c.text-end.ensures _ c.if-not-is_writable.false (zeros_after _ _ _ (end_inside _ _ _ _ c.if-n-gt-LARGEST_N.false c.if-a-n.false c.if-text-ne-PAGE.false _ c.is_writable.ensures _ _ c.text-end.ensures) (c.fill.ensures.after (λ y e. e)))
    ∙ ap (λ w. write_left w c.args.n c.args.a.now c.args.text.now) c.width-width.ensures

pub slice_bounds-fill-start : goal.slice_bounds-fill-start
slice_bounds-fill-start g c = search (rules, end_inside)
