-- The lent length is asked first; as much of the scratch as there are entries is lent on.
use Rattle.market_reader.proofs.Answering.{read_length}
use Rattle.market_reader.proofs.places.body.Goals as goal

pub returns-then-out-n : goal.returns-then-out-n
returns-then-out-n c = read_length _ _ _ _ _ c.if-out-n.true
