-- The loop keeps: k digits are read, which spell the value, and the run is those and what is left (Scanned).
use Rattle.std.proofs.Common.{rules}
use Rattle.texts.proofs.Digits.{digit_told, digit_untold, scanned_none, digit_fits, product_fits, scanned_more, scanned_stops, scanned_full}
use Rattle.texts.proofs.read.scan.Goals as goal

pub loop-k-init : goal.loop-k-init
loop-k-init c = scanned_none _ _ _ _

pub returns-then-base-digit : goal.returns-then-base-digit
returns-then-base-digit c =
    let none = digit_untold _ _ _ _ c.digit_value.ensures c.unwrap_or-digit.ensures c.requires.1 c.if-base-digit.true in
    search (rules, scanned_stops)

pub overflow_mul-value : goal.overflow_mul-value
overflow_mul-value c =
    let digit = digit_told _ _ _ _ c.digit_value.ensures c.unwrap_or-digit.ensures c.if-base-digit.false in
    search (rules, product_fits c.args.base c.args.text.now c.args.most c.args.p c.loop-k.value c.loop-k.k c.byte_at.result)

pub overflow_add-value : goal.overflow_add-value
overflow_add-value c =
    let digit = digit_told _ _ _ _ c.digit_value.ensures c.unwrap_or-digit.ensures c.if-base-digit.false in
    search (rules, digit_fits c.args.base c.args.text.now c.args.most c.args.p c.loop-k.value c.loop-k.k c.byte_at.result)

pub loop-k-preserved : goal.loop-k-preserved
loop-k-preserved c =
    let digit = digit_told _ _ _ _ c.digit_value.ensures c.unwrap_or-digit.ensures c.if-base-digit.false in
    search (rules, scanned_more c.args.base c.args.text.now c.args.most c.args.p c.loop-k.value c.loop-k.k c.byte_at.result)

pub returns : goal.returns
returns c = search (rules, scanned_full)
