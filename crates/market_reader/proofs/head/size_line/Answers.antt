-- Five ways out, in the order of the definition.
use Rattle.std.proofs.Common.{ap, ◌∙◌}
use Rattle.std.proofs.lemmas.Result.{err_from_is_err_and}
use Rattle.algebra.specs.Outcome.{refused}
use Rattle.refusals.specs.Refused.{number}
use Rattle.market_reader.proofs.EndedNumbers.{not_ended, is_ended}
use Rattle.market_reader.proofs.HeadLines.{found_digits, size_wrong, columns_wrong, sizes_differ, sizes_large, sizes_good}
use Rattle.market_reader.proofs.head.size_line.Goals as goal

pub returns-in_err-rest : goal.returns-in_err-rest
returns-in_err-rest c =
    let p = err_from_is_err_and c.from_residual.result c.from_residual.ensures.1 in
    let n = not_ended _ _ _ c.scan-rows.ensures _ _ _ _ c.ended_by.ensures c.in_err-rest.ensures.value in
    rw (p.1, p.2) (ap (λ e. refused (number e)) n.0 ∙ size_wrong _ _ n.1)

pub returns-in_err-entries : goal.returns-in_err-entries
returns-in_err-entries c =
    let p = err_from_is_err_and c.from_residual-in_err-entries.result c.from_residual-in_err-entries.ensures.1 in
    let r = is_ended _ _ _ c.scan-rows.ensures _ _ _ _ c.ended_by.ensures c.in_ok-rest.ensures.value in
    let n = not_ended _ _ _ c.scan-columns.ensures _ _ _ _ c.ended_by-2.ensures c.in_err-entries.ensures.value in
    rw (p.1, p.2) (ap (λ e. refused (number e)) n.0 ∙ columns_wrong _ _ _ r.0 r.1 n.1)

pub same-requires : goal.same-requires
same-requires c = (found_digits _ _ c.scan-rows.ensures, found_digits _ _ c.scan-columns.ensures)

pub returns-then-not-same : goal.returns-then-not-same
returns-then-not-same c =
    let r = is_ended _ _ _ c.scan-rows.ensures _ _ _ _ c.ended_by.ensures c.in_ok-rest.ensures.value in
    let n = is_ended _ _ _ c.scan-columns.ensures _ _ _ _ c.ended_by-2.ensures c.in_ok-entries.ensures.value in
    sizes_differ _ _ _ r.0 r.1 _ n.0 n.1 _ _ c.scan-rows.ensures c.scan-columns.ensures _ c.same.ensures c.if-not-same.true

pub returns-then-rows : goal.returns-then-rows
returns-then-rows c =
    let r = is_ended _ _ _ c.scan-rows.ensures _ _ _ _ c.ended_by.ensures c.in_ok-rest.ensures.value in
    let n = is_ended _ _ _ c.scan-columns.ensures _ _ _ _ c.ended_by-2.ensures c.in_ok-entries.ensures.value in
    sizes_large _ _ _ r.0 r.1 _ n.0 n.1 _ _ c.scan-rows.ensures c.scan-columns.ensures _ c.same.ensures c.if-not-same.false c.if-rows.true

pub returns : goal.returns
returns c =
    let r = is_ended _ _ _ c.scan-rows.ensures _ _ _ _ c.ended_by.ensures c.in_ok-rest.ensures.value in
    let n = is_ended _ _ _ c.scan-columns.ensures _ _ _ _ c.ended_by-2.ensures c.in_ok-entries.ensures.value in
    sizes_good _ _ _ r.0 r.1 _ n.0 n.1 _ _ c.scan-rows.ensures c.scan-columns.ensures _ c.same.ensures c.if-not-same.false c.if-rows.false
