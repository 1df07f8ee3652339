-- The loop ends: fewer cases are left after each.
use borrow.Author.Rules.{rules}
use Rattle.replay.proofs.Falls.{falls}
use Rattle.replay.proofs.Reader.cases.Goals as goal

pub loop-run-smaller : goal.loop-run-smaller
loop-run-smaller g c = search (rules, falls)
