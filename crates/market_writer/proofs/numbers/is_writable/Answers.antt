-- The first part, then the others.
use Rattle.std.proofs.Common.{◌≡◌, ◌∙◌, ◌-◌, length, take, drop, ap, rules, tests, arith}
use lib.ListN.{length-drop}
use lib.Seq.{take_all}
use lib.Ieee.{eq}
use Rattle.std.specs.Option.{is_some}
use Rattle.std.specs.List.{list_all}
use Rattle.std.proofs.lemmas.Iterator.{YieldsList-from_slice}
use Rattle.std.proofs.lemmas.Iterator.Search.{all_from_yields_List}
use Rattle.real.specs.Operations.{zero}
use Rattle.market_writer.proofs.WholeParts.{record_not, record_is}
use Rattle.market_writer.proofs.numbers.is_writable.Goals as goal

pub returns-then-is_some : goal.returns-then-is_some
returns-then-is_some c =
    let parts = c.args.parts.now in
    let others : take (length parts - 1) (drop 1 parts) ≡ drop 1 parts = take_all (length parts - 1) (drop 1 parts) (omega (arith, length-drop 1 parts)) in
    let all : c.all.result ≡ list_all (λ x. eq x zero) (take (length parts - 1) (drop 1 parts)) =
    all_from_yields_List (λ x. eq x zero) _ _ c.all.result c.all.ensures.ran (YieldsList-from_slice _ c.iter.ensures.rest) (λ x b q k. search (rules, tests)) in
    record_is parts c.requires _ (c.is_some.ensures ∙ ap is_some c.whole.ensures) _ c.if-is_some.true (all ∙ ap (list_all (λ x. eq x zero)) others)

pub returns-else-is_some : goal.returns-else-is_some
returns-else-is_some c = record_not c.args.parts.now c.requires _ (c.is_some.ensures ∙ ap is_some c.whole.ensures) c.if-is_some.false
