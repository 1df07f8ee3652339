-- What the head tells: a refusal, or the entries from there on.
use Rattle.std.proofs.Common.{ap, ◌∙◌}
use Rattle.std.proofs.lemmas.Result.{err_from_is_err_and}
use Rattle.market.specs.Read.{read_left}
use Rattle.market_reader.proofs.Answering.{read_refused, read_known}
use Rattle.market_reader.proofs.read.Goals as goal

pub returns-in_err-head : goal.returns-in_err-head
returns-in_err-head g c = let p = err_from_is_err_and c.from_residual.result c.from_residual.ensures.1 in rw (p.1, p.2) (read_refused _ _ _ _ c.in_err-head.ensures)

pub returns : goal.returns
returns g c = read_known _ _ _ _ _ _ _ c.in_ok-head.ensures c.body.ensures ∙ ap (λ w. read_left w c.args.text.now c.args.out.now) c.width.ensures
