-- Too long, general, symmetric, or neither.
use Rattle.std.proofs.Common.{rules}
use Rattle.market_reader.proofs.HeadLines.{head_long, head_general, head_symmetric, head_neither}
use Rattle.market_reader.proofs.head.head.Goals as goal

pub returns-then-text-gt-LARGEST_MARKET : goal.returns-then-text-gt-LARGEST_MARKET
returns-then-text-gt-LARGEST_MARKET c = search (rules, head_long)

pub returns-in-Some : goal.returns-in-Some
returns-in-Some c = head_general _ c.if-text-gt-LARGEST_MARKET.false _ _ _ c.after_comments.ensures c.size_line.ensures c.in-Some.ensures.cases.0 c.in-Some.ensures.cases.1

pub returns-in-Some-strip_prefix : goal.returns-in-Some-strip_prefix
returns-in-Some-strip_prefix c =
    head_symmetric _ c.if-text-gt-LARGEST_MARKET.false _ _ _ c.after_comments-in-Some-strip_prefix.ensures c.size_line-in-Some-strip_prefix.ensures
    c.in_default.ensures.cases c.in-Some-strip_prefix.ensures.cases.0 c.in-Some-strip_prefix.ensures.cases.1

pub returns : goal.returns
returns c = head_neither _ c.if-text-gt-LARGEST_MARKET.false c.in_default.ensures.cases c.in_default-strip_prefix.ensures.cases
