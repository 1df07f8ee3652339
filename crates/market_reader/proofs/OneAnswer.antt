-- No second outcome meets the promise of an entry: one answer, and one content of the lent floats. Assumes nothing.
use mathlib.Core.Path.{refl, ap, sym, ◌∙◌}
use mir.Syntax.{Dict}
use lib.Ieee.{Float}
use borrow.Fn.Kinds.{ended_of}
use denote.RattleType.{RattleType}
use denote.Param.Laws as param
use denote.Triple.Clauses.{at_exit}
use Rattle.std.specs.declared.clone.Clone as Clone
use Rattle.real.proofs.Only.{Only}
use Rattle.algebra.proofs.Outcomes.{outcome_one}
use Rattle.records.specs.declared.Record as Record
use Rattle.market.specs.Answers.{Left}
use Rattle.market_reader.proofs.size as size
use Rattle.market_reader.proofs.read as read

pub size_only : Only 1 size.Kinds.ps size.Kinds.r size.Reads.Pre size.Reads.Post
size_only κs a x y v w h p q = (outcome_one x y (p ∙ sym q), refl)

-- over any record
module _ (T : RattleType) (l : param.Laws T) (c : param.IsCopy T) (G : Record.Ghosts T.Denot) (d : Dict) (C : Clone.Ghosts T.Denot) (k : Dict) where
  pub read_only : Only 3 (read.Kinds.ps T l c) (read.Kinds.r T l c) (read.Reads.Pre T l c G d C k) (read.Reads.Post T l c G d C k)
  read_only κs a x y v w h p q =
      let e = p ∙ sym q in (
        outcome_one x y (ap (λ (s : Left Float). s.answer) e),
        λ i. at_exit (ended_of 3 (read.Kinds.ps T l c) (read.Kinds.r T l c)) κs a (v.0, (ap (λ (s : Left Float). s.buffer) e i, tt)),
      )
