-- By what the reader found; whatever was asked can be. Assumes nothing.
use Rattle.std.proofs.Common.{Some, None, rules}
use Rattle.rootsteps.proofs.Asking.{askable}
use Rattle.rootsteps.proofs.Lines.{answered}
use Rattle.rootsteps.proofs.answer.Goals as goal

pub steps-requires : goal.steps-requires
steps-requires c = search (rules, askable)

pub returns-in-Some : goal.returns-in-Some
returns-in-Some c = answered _ _ _ _ (Some c.in-Some.asked) c.request.ensures c.in-Some.is c.steps.ensures

pub returns-in-None : goal.returns-in-None
returns-in-None c = answered _ _ _ _ None c.request.ensures c.in-None.is c.bytes.ensures
