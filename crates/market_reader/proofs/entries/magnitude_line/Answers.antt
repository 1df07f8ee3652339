-- Four ways out, in the order of the definition.
use Rattle.std.proofs.Common.{ap, ◌∙◌}
use Rattle.std.proofs.lemmas.Result.{err_from_is_err_and}
use Rattle.algebra.specs.Outcome.{refused}
use Rattle.refusals.specs.Refused.{number}
use Rattle.market_reader.proofs.EndedNumbers.{not_ended, is_ended}
use Rattle.market_reader.proofs.EntryLines.{line_large, line_cut, line_wrong, line_good}
use Rattle.market_reader.proofs.entries.magnitude_line.Goals as goal

pub returns-then-magnitude-gt-LARGEST_WHOLE : goal.returns-then-magnitude-gt-LARGEST_WHOLE
returns-then-magnitude-gt-LARGEST_WHOLE c = line_large _ _ _ c.scan-magnitude.ensures c.if-magnitude-gt-LARGEST_WHOLE.true

pub returns-then-is_empty : goal.returns-then-is_empty
returns-then-is_empty c = line_cut _ _ _ c.scan-magnitude.ensures c.if-magnitude-gt-LARGEST_WHOLE.false _ c.is_empty.ensures c.if-is_empty.true

pub returns-in_err-rest : goal.returns-in_err-rest
returns-in_err-rest c =
    let p = err_from_is_err_and c.from_residual.result c.from_residual.ensures.1 in
    let n = not_ended _ _ _ c.scan-magnitude.ensures _ _ _ _ c.ended_by.ensures c.in_err-rest.ensures.value in
    rw (p.1, p.2) (ap (λ e. refused (number e)) n.0 ∙ line_wrong _ _ _ c.scan-magnitude.ensures c.if-magnitude-gt-LARGEST_WHOLE.false _ c.is_empty.ensures c.if-is_empty.false n.1)

pub returns : goal.returns
returns c =
    let n = is_ended _ _ _ c.scan-magnitude.ensures _ _ _ _ c.ended_by.ensures c.in_ok-rest.ensures.value in
    line_good _ _ _ c.scan-magnitude.ensures c.if-magnitude-gt-LARGEST_WHOLE.false _ c.is_empty.ensures c.if-is_empty.false _ _ n.0 n.1 c.signed.ensures
