-- The digits that `io` gives are 16, since no word has more.
use Rattle.std.proofs.Common.{rules}
use Rattle.texts.proofs.Decimals.{hex_written}
use Rattle.texts.proofs.write.Writer.word.Goals as goal

pub returns : goal.returns
returns c = search (rules, hex_written)
