-- The entry's number, column by column, has its row and its column again.
use Rattle.market_writer.proofs.Pieces.{entry_read}
use Rattle.market_writer.proofs.matrix.Matrix.entry.Goals as goal

pub returns : goal.returns
returns c = entry_read _ _ _ c.args.self.square _ _ c.requires.0 c.requires.1
