-- No second outcome meets the promise of the entry, over any record: one answer, and one content of the lent bytes. Assumes nothing.
use mathlib.Core.Path.{ap, sym, ◌∙◌}
use Prim.Native.Nat.{ℕ}
use mir.Syntax.{Dict}
use borrow.Fn.Kinds.{ended_of}
use denote.RattleType.{RattleType}
use denote.Param.Laws as param
use denote.Triple.Clauses.{at_exit}
use Rattle.std.specs.declared.clone.Clone as Clone
use Rattle.real.proofs.Only.{Only}
use Rattle.algebra.proofs.Outcomes.{outcome_one}
use Rattle.records.specs.declared.Record as Record
use Rattle.market.specs.Answers.{Left}
use Rattle.market_writer.proofs.write as write

module _ (T : RattleType) (l : param.Laws T) (c : param.IsCopy T) (G : Record.Ghosts T.Denot) (d : Dict) (C : Clone.Ghosts T.Denot) (k : Dict) where
  pub write_only : Only 3 (write.Kinds.ps T l c) (write.Kinds.r T l c) (write.Reads.Pre T l c G d C k) (write.Reads.Post T l c G d C k)
  write_only κs a x y v w h p q =
      let e = p ∙ sym q in (
        outcome_one x y (ap (λ (s : Left ℕ). s.answer) e),
        λ i. at_exit (ended_of 3 (write.Kinds.ps T l c) (write.Kinds.r T l c)) κs a (v.0, (v.1.0, (ap (λ (s : Left ℕ). s.buffer) e i, tt))),
      )
