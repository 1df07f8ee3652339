-- What the head tells, by its size.
use Rattle.std.proofs.lemmas.Result.{err_from_is_err_and}
use Rattle.market_reader.proofs.Answering.{size_known, size_refused}
use Rattle.market_reader.proofs.size.Goals as goal

pub returns-in_err-opening : goal.returns-in_err-opening
returns-in_err-opening c = let p = err_from_is_err_and c.from_residual.result c.from_residual.ensures.1 in rw (p.1, p.2) (size_refused _ _ c.in_err-opening.ensures)

pub returns : goal.returns
returns c = size_known _ _ _ _ c.in_ok-opening.ensures
