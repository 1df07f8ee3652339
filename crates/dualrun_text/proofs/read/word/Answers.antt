-- Sixteen digits and the byte after them: too few digits, another byte, or the word.
use Rattle.std.proofs.Common.{◌≡◌, ◌+◌, ◌*◌, ap, ◌∙◌, arith}
use Rattle.texts.specs.Digits.{byte_at, scan_of}
use Rattle.dualrun_text.specs.Body.{word_digits, word_bytes}
use Rattle.dualrun_text.proofs.Words.{word_short, word_unended, word_read}
use Rattle.dualrun_text.proofs.read.word.Goals as goal

pub returns-then-digits-ne-WORD_DIGITS : goal.returns-then-digits-ne-WORD_DIGITS
returns-then-digits-ne-WORD_DIGITS c =
    let place : word_bytes * c.args.i ≡ 0 + word_bytes * c.args.i = omega arith in
    word_short _ _ _ _ (c.scan-s.ensures ∙ ap (scan_of 16 word_digits c.args.rest.now) place) c.if-digits-ne-WORD_DIGITS.true

pub returns-then-byte_at-separator : goal.returns-then-byte_at-separator
returns-then-byte_at-separator c =
    let place : word_bytes * c.args.i ≡ 0 + word_bytes * c.args.i = omega arith in
    let end : word_bytes * c.args.i + word_digits ≡ 0 + word_bytes * c.args.i + word_digits = omega arith in
    word_unended _ _ _ _ (c.scan-s.ensures ∙ ap (scan_of 16 word_digits c.args.rest.now) place) _ _ c.if-digits-ne-WORD_DIGITS.false (c.byte_at.ensures ∙ ap (byte_at c.args.rest.now) end) c.separator.ensures c.if-byte_at-separator.true

pub returns : goal.returns
returns c =
    let place : word_bytes * c.args.i ≡ 0 + word_bytes * c.args.i = omega arith in
    let end : word_bytes * c.args.i + word_digits ≡ 0 + word_bytes * c.args.i + word_digits = omega arith in
    word_read _ _ _ _ (c.scan-s.ensures ∙ ap (scan_of 16 word_digits c.args.rest.now) place) _ _ c.if-digits-ne-WORD_DIGITS.false (c.byte_at.ensures ∙ ap (byte_at c.args.rest.now) end) c.separator.ensures c.if-byte_at-separator.false
