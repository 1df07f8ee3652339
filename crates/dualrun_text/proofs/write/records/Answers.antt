-- The loop keeps: the records passed are written (Listing).
use Rattle.std.proofs.Common.{◌∙◌, ap}
use Rattle.std.proofs.lemmas.List.{length_push}
use Rattle.std.specs.Slice.Iter.{chunks_exact_size, chunks_exact_rest}
use Rattle.dualrun_text.proofs.Lines.{listing_none, listing_more, listing_all}
use Rattle.dualrun_text.proofs.write.records.Goals as goal

pub loop-parts-init : goal.loop-parts-init
loop-parts-init c =
    let begun = c.into_iter-parts-iterator.ensures.into_iter_gives in
    let items = c.chunks_exact-parts-items.ensures in
    listing_none _ _ _ (ap chunks_exact_size begun ∙ items.size) (ap chunks_exact_rest begun ∙ items.rest)

-- a record more: the next two floats
pub loop-parts-preserved : goal.loop-parts-preserved
loop-parts-preserved c =
    let turn = c.in-Some.ensures.steps in
    listing_more _ _ _ _ _ c.loop-parts.invariant _ _ _ _ (length_push c.loop-parts.yielded c.in-Some.parts) turn.0 turn.1.0 turn.1.1 c.record.ensures
