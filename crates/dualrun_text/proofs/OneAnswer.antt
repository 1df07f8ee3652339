-- No second outcome meets the promise of `run`: one count, and one content of the lent buffer; nor a second answer that of `decided`. Assumes nothing.
use mathlib.Core.Path.{refl, ap, sym, ◌∙◌}
use borrow.Fn.Kinds.{ended_of}
use denote.Triple.Clauses.{at_exit}
use Rattle.real.proofs.Only.{Only}
use Rattle.texts.specs.Page.{Page}
use Rattle.dualrun_text.proofs.run as run
use Rattle.dualrun_text.proofs.decided as decided

pub run_only : Only 2 run.Kinds.ps run.Kinds.r run.Reads.Pre run.Reads.Post
run_only κs a x y v w h p q =
    let e = p.0 ∙ sym q.0 in (
      ap (λ (l : Page). l.used) e,
      λ i. at_exit (ended_of 2 run.Kinds.ps run.Kinds.r) κs a (v.0, (ap (λ (l : Page). l.bytes) e i, tt)),
    )

pub decided_only : Only 1 decided.Kinds.ps decided.Kinds.r decided.Reads.Pre decided.Reads.Post
decided_only κs a x y v w h p q = (p ∙ sym q, refl)
