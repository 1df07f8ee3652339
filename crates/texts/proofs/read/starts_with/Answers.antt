-- The chain says that every byte of the word stands in the text, which is the test of the definition.
use Rattle.std.proofs.Common.{rules, ◌≡◌, ◌↔◌, IsTrue, EachIndex, length, eqb, eq-eqb, eqb-true}
use Rattle.texts.specs.Digits.{byte_at, starts_with}
use Rattle.texts.proofs.Every.{every_said}
use Rattle.texts.proofs.read.starts_with.Goals as goal

pub returns : goal.returns
unfolding starts_with
returns c =
    let text = c.args.text.now in
    let word = c.args.word.now in
    let each : IsTrue c.all.result ↔ EachIndex word (λ i. byte_at text i ≡ byte_at word i) = search rules in
    every_said (λ i. eqb (byte_at text i) (byte_at word i)) (λ i. byte_at text i ≡ byte_at word i) (length word) c.all.result
    (λ k e. eq-eqb (byte_at text k) (byte_at word k) e)
    (λ k e. eqb-true (byte_at text k) (byte_at word k) e)
    each.0 each.1
