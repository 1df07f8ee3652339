-- All can be written if each record can (Records): what is left is whole records (Checking).
use borrow.Author.Rules.{rules}
use borrow.Author.Tests.{tests}
use Rattle.market_writer.proofs.Pieces.{checking_none}
use Rattle.market_writer.proofs.Records.{all_records}
use Rattle.market_writer.proofs.matrix.Matrix.is_writable.Goals as goal

pub returns : goal.returns
returns c =
    all_records c.args.self.width c.args.self.floats.now (λ f x b q k. search (rules, tests)) _ _ _ _
    (search (rules, checking_none))
    c.all.ensures.ran
