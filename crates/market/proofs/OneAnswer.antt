-- No second answer meets the promise of the number of an answer, whatever is answered. Assumes nothing.
use mathlib.Core.Path.{refl, sym, ◌∙◌}
use mir.Syntax.{Dict}
use denote.RattleType.{RattleType}
use denote.Param.Laws as param
use Rattle.std.specs.declared.clone.Clone as Clone
use Rattle.real.proofs.Only.{Only}
use Rattle.refusals.proofs.answer_number.Kinds as number-k
use Rattle.refusals.proofs.answer_number.Reads as number

module _ (T : RattleType) (l : param.Laws T) (c : param.IsCopy T) (C : Clone.Ghosts T.Denot) (e : Dict) where
  pub number_only : Only 1 (number-k.ps T l c) (number-k.r T l c) (number.Pre T l c C e) (number.Post T l c C e)
  number_only κs a x y v w h p q = (p ∙ sym q, refl)
