-- The loop keeps: the first k bytes are digits, value stands for their number, and the text is worth what is left of it with that number in front (Scanning).
use Rattle.std.proofs.Common.{rules, refl, sym, ◌∙◌}
use Rattle.texts.proofs.Digits.{decimal_is, decimal_none}
use Rattle.texts.proofs.WholeNumbers.{scanning_more, scanning_stops, scanning_ends}
use Rattle.texts.proofs.whole.scan.Goals as goal

pub returns-then-not-is_ascii_digit : goal.returns-then-not-is_ascii_digit
returns-then-not-is_ascii_digit c = scanning_stops _ _ _ _ c.loop-k.invariant _ c.loop-k-test.true (decimal_none _ (sym c.if-not-is_ascii_digit.true ∙ c.is_ascii_digit.ensures.value)) refl refl refl

pub loop-k-preserved : goal.loop-k-preserved
loop-k-preserved c = search (rules, scanning_more, decimal_is)

pub returns : goal.returns
returns c = scanning_ends _ _ _ _ c.loop-k.invariant _ c.loop-k-test.false refl refl refl
