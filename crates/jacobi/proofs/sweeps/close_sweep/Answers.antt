-- The sums are added, copied, and what was added is cleared.
use borrow.Author.Rules.{rules}
use Rattle.dual.specs.Laws.{dual_laws}
use Rattle.jacobi.proofs.Scratch.{blank, copied}
use Rattle.jacobi.proofs.sweeps.close_sweep.Goals as goal

pub returns-clause-zw_after : goal.returns-clause-zw_after
returns-clause-zw_after c = search (rules, blank dual_laws)
