-- The loop keeps: what is left to add gives the whole sum (Joins).
use Rattle.std.proofs.Common.{rules, ◌∙◌, ap}
use Rattle.std.proofs.lemmas.List.{length_push}
use Rattle.std.specs.Slice.Iter.{chunks_exact_size, chunks_exact_rest}
use Rattle.algebra.proofs.Joins.{joining_from, joining_more, chunk_held, sum_refused, sum_done}
use Rattle.records.proofs.Record.sum.Goals as goal

pub returns-then-floats-width-ne0 : goal.returns-then-floats-width-ne0
returns-then-floats-width-ne0 g c = search (rules, sum_refused g.met.Self.Record.laws)

pub loop-part-init : goal.loop-part-init
loop-part-init g c =
    let begun = c.into_iter-part-iterator.ensures.into_iter_gives in
    let items = c.chunks_exact-part-items.ensures in
    joining_from g.met.Self.Record.laws _ _ _ c.zero-acc.ensures (ap chunks_exact_size begun ∙ items.size ∙ c.width-2.ensures) (ap chunks_exact_rest begun ∙ items.rest)

pub read-requires : goal.read-requires
read-requires g c = let turn = c.in-Some.ensures.steps in chunk_held g.met.Self.Record.laws _ (turn.1.1 ∙ c.loop-part.invariant.size)

pub loop-part-preserved : goal.loop-part-preserved
loop-part-preserved g c =
    let turn = c.in-Some.ensures.steps in
    joining_more g.met.Self.Record.laws _ _ _ _ _ _ _ _ _ _ c.loop-part.invariant turn.0 turn.1.0 turn.1.1 c.read.ensures c.add-acc.ensures (length_push c.loop-part.yielded c.in-Some.part)

pub returns : goal.returns
returns g c =
    let turn = c.in-None.ensures.steps in
    sum_done g.met.Self.Record.laws _ _ _ _ _ _ c.width.ensures c.if-floats-width-ne0.false c.loop-part.invariant turn.1.0
