-- Every pair of digits was compared, each from its end.
use Rattle.std.proofs.Common.{◌≡◌, ◌∙◌, refl, eqb, rules, arith, tests}
use Rattle.std.proofs.lemmas.Iterator.{YieldsList-from_range}
use Rattle.std.proofs.lemmas.Iterator.Search.{all_from_yields_List}
use Rattle.std.specs.List.{list_all, range_with_len}
use Rattle.texts.specs.Whole.{from_end}
use Rattle.texts.proofs.WholeNumbers.{same_number}
use Rattle.texts.proofs.whole.same.Goals as goal

pub returns : goal.returns
returns c =
    let a = c.args.a.now in
    let b = c.args.b.now in
    let all : c.all.result ≡ list_all (λ i. eqb (from_end a i) (from_end b i)) (range_with_len 0 c.max.result) =
    all_from_yields_List (λ i. eqb (from_end a i) (from_end b i)) _ _ c.all.result c.all.ensures.ran (YieldsList-from_range 0 c.max.result c.max.result refl (omega arith)) (λ x b q k. search (rules, tests)) in
    all ∙ same_number a b c.requires.0 c.requires.1 c.max.result (omega (arith, c.max.ensures)) (omega (arith, c.max.ensures))
