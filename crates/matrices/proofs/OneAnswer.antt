-- No second answer meets the promise of a reading of an answer: document 01's number, and LU's column. Assumes nothing.
use mathlib.Core.Path.{refl, sym, ◌∙◌}
use mir.Syntax.{Dict}
use denote.RattleType.{RattleType}
use denote.Param.Laws as param
use Rattle.std.specs.declared.clone.Clone as Clone
use Rattle.real.proofs.Only.{Only}
use Rattle.refusals.proofs.answer_number.Kinds as answer-number-k
use Rattle.refusals.proofs.answer_number.Reads as answer-number
use Rattle.matrices.proofs.LuRefusal.number.Kinds as refusal-number-k
use Rattle.matrices.proofs.LuRefusal.number.Reads as refusal-number
use Rattle.matrices.proofs.LuRefusal.column.Kinds as refusal-column-k
use Rattle.matrices.proofs.LuRefusal.column.Reads as refusal-column
use Rattle.matrices.proofs.lu_number.Kinds as lu-number-k
use Rattle.matrices.proofs.lu_number.Reads as lu-number
use Rattle.matrices.proofs.lu_column.Kinds as lu-column-k
use Rattle.matrices.proofs.lu_column.Reads as lu-column

pub lu_number_only : Only 0 lu-number-k.ps lu-number-k.r lu-number.Pre lu-number.Post
lu_number_only κs a x y v w h p q = (p ∙ sym q, refl)

pub lu_column_only : Only 0 lu-column-k.ps lu-column-k.r lu-column.Pre lu-column.Post
lu_column_only κs a x y v w h p q = (p ∙ sym q, refl)

pub refusal_number_only : Only 0 refusal-number-k.ps refusal-number-k.r refusal-number.Pre refusal-number.Post
refusal_number_only κs a x y v w h p q = (p ∙ sym q, refl)

pub refusal_column_only : Only 0 refusal-column-k.ps refusal-column-k.r refusal-column.Pre refusal-column.Post
refusal_column_only κs a x y v w h p q = (p ∙ sym q, refl)

-- of solve, inverse and determinant
module _ (T : RattleType) (l : param.Laws T) (c : param.IsCopy T) (C : Clone.Ghosts T.Denot) (e : Dict) where
  pub solve_number_only : Only 1 (answer-number-k.ps T l c) (answer-number-k.r T l c) (answer-number.Pre T l c C e) (answer-number.Post T l c C e)
  solve_number_only κs a x y v w h p q = (p ∙ sym q, refl)
