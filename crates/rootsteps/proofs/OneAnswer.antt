-- No second outcome meets the promise of `run`: one count, and one content of the lent buffer. Assumes nothing.
use mathlib.Core.Path.{ap, sym, ◌∙◌}
use borrow.Fn.Kinds.{ended_of}
use denote.Triple.Clauses.{at_exit}
use Rattle.real.proofs.Only.{Only}
use Rattle.texts.specs.Page.{Page}
use Rattle.rootsteps.proofs.run as run

pub run_only : Only 2 run.Kinds.ps run.Kinds.r run.Reads.Pre run.Reads.Post
run_only κs a x y v w h p q =
    let e = p.0 ∙ sym q.0 in (
      ap (λ (l : Page). l.used) e,
      λ i. at_exit (ended_of 2 run.Kinds.ps run.Kinds.r) κs a (v.0, (ap (λ (l : Page). l.bytes) e i, tt)),
    )
