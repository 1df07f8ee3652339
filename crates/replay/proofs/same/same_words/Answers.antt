-- What `all` tells of the pairs is what `==` tells place by place.
use mathlib.Core.Path.{◌∙◌}
use lib.Dec.{eqb}
use borrow.Author.Rules.{rules}
use borrow.Author.Tests.{tests}
use Rattle.std.proofs.lemmas.Iterator.{YieldsList-from_slice, YieldsList-from_zip}
use Rattle.std.proofs.lemmas.Iterator.Search.{all_from_yields_List}
use Rattle.replay.proofs.Pairs.{all_pairs}
use Rattle.replay.proofs.same.same_words.Goals as goal

pub returns-then-words-items : goal.returns-then-words-items
returns-then-words-items g c =
    let word = g.T.HasWord.word in
    all_from_yields_List {s = c.zip.result} (λ t. eqb t.0 (word t.1)) c.all.new.self _ _ c.all.ensures.ran
    (YieldsList-from_zip (YieldsList-from_slice c.args.words.now (search rules)) (YieldsList-from_slice c.args.items.now (search rules)))
    (λ x b q k. search (rules, tests))
    ∙ all_pairs (λ w x. eqb w (word x)) c.args.words.now c.args.items.now c.if-words-items.true
