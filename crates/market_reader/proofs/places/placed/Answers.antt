-- A fault in the entries, or all of them placed.
use Rattle.std.proofs.lemmas.Result.{err_from_is_err_and}
use Rattle.market_reader.proofs.Answering.{read_fault, read_good}
use Rattle.market_reader.proofs.places.placed.Goals as goal

pub returns-in_err-all : goal.returns-in_err-all
returns-in_err-all c = let p = err_from_is_err_and c.from_residual.result c.from_residual.ensures.1 in rw (p.1, p.2) (read_fault _ _ _ _ _ _ c.requires.square.full c.requires.numbers_len _ c.in_err-all.ensures)

pub returns : goal.returns
returns c = read_good _ _ _ _ _ _ c.requires.square.full c.requires.numbers_len _ _ c.in_ok-all.ensures c.fill.ensures
