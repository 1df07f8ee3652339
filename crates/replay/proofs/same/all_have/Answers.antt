-- What `all` tells of the items is what `==` would of as many of the word.
use mathlib.Core.Path.{◌∙◌}
use lib.Dec.{eqb}
use borrow.Author.Rules.{rules}
use borrow.Author.Tests.{tests}
use Rattle.std.proofs.lemmas.Iterator.{YieldsList-from_slice}
use Rattle.std.proofs.lemmas.Iterator.Search.{all_from_yields_List}
use Rattle.replay.proofs.Pairs.{all_beside}
use Rattle.replay.proofs.same.all_have.Goals as goal

pub returns : goal.returns
returns g c =
    let word = g.T.HasWord.word in
    all_from_yields_List (λ x. eqb c.args.word (word x)) _ _ _ c.all.ensures.ran (YieldsList-from_slice c.args.items.now (search rules)) (λ x b q k. search (rules, tests))
    ∙ all_beside (λ w x. eqb w (word x)) c.args.word c.args.items.now
