-- What is proved of LU, solve, determinant and inverse over any record, of these entries at `Dual`, as the exports here call them: no second outcome, the order that
-- LU leaves, what a buffer held before and what is not written, and that derivative parts never steer. Assumes nothing.
use mathlib.Core.Path.{refl}
use mathlib.Core.List.{[]}
use lib.Ieee.{binary64}
use mir.Syntax.{Dict, ty_struct, ty_float, tcons, tnil}
use denote.RattleType.{RattleType}
use denote.Exit.{no}
use denote.Param.{arg}
use denote.Param.Laws as param
use Rattle.std.specs.declared.clone.Clone as clone
use Rattle.real.proofs.Only.{Only}
use Rattle.algebra.specs.Outcome.{outcome}
use Rattle.records.specs.declared.Record as record-trait
use Rattle.dual.specs.contracts.Dual.{the_row}
use Rattle.dual.specs.contracts.DualRecord.TheImpl as impl
use Rattle.dual.proofs.Dual.TheLaws.{the_row_laws, the_row_copy}
use Rattle.dual.specs.Laws.{dual_laws}
use Rattle.matrices.specs.Answers.{lu_outcome, lu_column, solve_outcome}
use Rattle.matrices.proofs.Calls.{LuLeavesOrder, LuEveryRow, SolveAfterLu, InverseAfterLu, DeterminantAfterLu}
use Rattle.matrices.proofs.Calls.{LuPreviousContents, LuNothingWritten, LuZeros, SolvePreviousContents, SolveNothingWritten}
use Rattle.matrices.proofs.Calls.{InversePreviousContents, InverseNothingWritten, DeterminantSameInputs}
use Rattle.matrices.proofs.Calls.{LuNeverSteered, SolveNeverSteered, InverseNeverSteered, DeterminantNeverSteered}
use Rattle.lu.proofs.lu as lu
use Rattle.lu.proofs.solve as solve
use Rattle.lu.proofs.determinant as determinant
use Rattle.lu.proofs.inverse as inverse
use Rattle.lu.proofs.OneAnswer as one_answer
use Rattle.lu.proofs.LeavesOrder as leaves
use Rattle.lu.proofs.PreviousContents as previous
use Rattle.lu.proofs.NeverSteered as steered

-- what a generic function takes with `Dual`: the type, its laws, that it is copied, and the members of its `Record`
abbrev T : RattleType
T = arg (ty_struct [] (tcons (ty_float binary64) (tcons (ty_float binary64) tnil))) no the_row

abbrev l : param.Laws T
l = param.arg_laws (ty_struct [] (tcons (ty_float binary64) (tcons (ty_float binary64) tnil))) no the_row the_row_laws refl

abbrev c : param.IsCopy T
c = param.arg_copy (ty_struct [] (tcons (ty_float binary64) (tcons (ty_float binary64) tnil))) no the_row the_row_copy refl

abbrev G : record-trait.Ghosts T.Denot
G = impl.ghosts

abbrev d : Dict
d = impl.dict

-- whatever the members of its `Clone` are, which no promise here asks
module _ (C : clone.Ghosts T.Denot) (e : Dict) where
  pub lu_only : Only 4 (lu.Kinds.ps T l c) (lu.Kinds.r T l c) (lu.Reads.Pre T l c G d C e) (lu.Reads.Post T l c G d C e)
  lu_only = one_answer.lu_only T l c G d C e dual_laws

  pub solve_only : Only 5 (solve.Kinds.ps T l c) (solve.Kinds.r T l c) (solve.Reads.Pre T l c G d C e) (solve.Reads.Post T l c G d C e)
  solve_only = one_answer.solve_only T l c G d C e dual_laws

  pub inverse_only : Only 4 (inverse.Kinds.ps T l c) (inverse.Kinds.r T l c) (inverse.Reads.Pre T l c G d C e) (inverse.Reads.Post T l c G d C e)
  inverse_only = one_answer.inverse_only T l c G d C e dual_laws

  pub determinant_only : Only 3 (determinant.Kinds.ps T l c) (determinant.Kinds.r T l c) (determinant.Reads.Pre T l c G d C e) (determinant.Reads.Post T l c G d C e)
  determinant_only = one_answer.determinant_only T l c G d C e dual_laws

  pub leaves_order : LuLeavesOrder (lu.Kinds.r T l c) (λ κs x. lu_outcome x) (λ κs x. lu_column x) (lu.Reads.Post T l c G d C e)
  leaves_order = leaves.leaves_order T l c G d C e dual_laws

  pub every_row_occurs : LuEveryRow (lu.Kinds.r T l c) (λ κs x. lu_outcome x) (λ κs x. lu_column x) (lu.Reads.Post T l c G d C e)
  every_row_occurs = leaves.every_row_occurs T l c G d C e dual_laws

  pub solve_after_lu : SolveAfterLu (lu.Kinds.r T l c) (λ κs x. lu_outcome x) (λ κs x. lu_column x) (solve.Kinds.r T l c) (λ κs x. solve_outcome x) 2 (lu.Reads.Post T l c G d C e) (solve.Reads.Post T l c G d C e)
  solve_after_lu = leaves.solve_after_lu T l c G d C e dual_laws

  pub inverse_after_lu : InverseAfterLu (lu.Kinds.r T l c) (λ κs x. lu_outcome x) (λ κs x. lu_column x) (inverse.Kinds.r T l c) (λ κs x. solve_outcome x) 2 (lu.Reads.Post T l c G d C e) (inverse.Reads.Post T l c G d C e)
  inverse_after_lu = leaves.inverse_after_lu T l c G d C e dual_laws

  pub determinant_after_lu : DeterminantAfterLu (lu.Kinds.r T l c) (λ κs x. lu_outcome x) (λ κs x. lu_column x) (determinant.Kinds.r T l c) (λ κs x. outcome x) (lu.Reads.Post T l c G d C e) (determinant.Reads.Post T l c G d C e)
  determinant_after_lu = leaves.determinant_after_lu T l c G d C e dual_laws

  pub lu_previous_contents : LuPreviousContents (lu.Kinds.r T l c) (λ κs x. lu_outcome x) (λ κs x. lu_column x) (lu.Reads.Post T l c G d C e)
  lu_previous_contents = previous.lu_previous_contents T l c G d C e dual_laws

  pub lu_nothing_written : LuNothingWritten (lu.Kinds.r T l c) (λ κs x. lu_outcome x) (λ κs x. lu_column x) (lu.Reads.Post T l c G d C e)
  lu_nothing_written = previous.lu_nothing_written T l c G d C e dual_laws

  pub lu_zeros : LuZeros (lu.Kinds.r T l c) (λ κs x. lu_outcome x) (λ κs x. lu_column x) 2 (lu.Reads.Post T l c G d C e)
  lu_zeros = previous.lu_zeros T l c G d C e dual_laws

  pub solve_previous_contents : SolvePreviousContents (solve.Kinds.r T l c) (λ κs x. solve_outcome x) (solve.Reads.Post T l c G d C e)
  solve_previous_contents = previous.solve_previous_contents T l c G d C e dual_laws

  pub solve_nothing_written : SolveNothingWritten (solve.Kinds.r T l c) (λ κs x. solve_outcome x) (solve.Reads.Post T l c G d C e)
  solve_nothing_written = previous.solve_nothing_written T l c G d C e dual_laws

  pub inverse_previous_contents : InversePreviousContents (inverse.Kinds.r T l c) (λ κs x. solve_outcome x) (inverse.Reads.Post T l c G d C e)
  inverse_previous_contents = previous.inverse_previous_contents T l c G d C e dual_laws

  pub inverse_nothing_written : InverseNothingWritten (inverse.Kinds.r T l c) (λ κs x. solve_outcome x) (inverse.Reads.Post T l c G d C e)
  inverse_nothing_written = previous.inverse_nothing_written T l c G d C e dual_laws

  pub determinant_same_inputs : DeterminantSameInputs G.algebra (determinant.Kinds.r T l c) (λ κs x. outcome x) (determinant.Reads.Post T l c G d C e)
  determinant_same_inputs = previous.determinant_same_inputs T l c G d C e dual_laws

  pub lu_never_steered : LuNeverSteered (lu.Kinds.r T l c) (λ κs x. lu_outcome x) (λ κs x. lu_column x) 2 (lu.Reads.Post T l c G d C e)
  lu_never_steered = steered.lu_never_steered T l c G d C e dual_laws

  pub solve_never_steered : SolveNeverSteered (solve.Kinds.r T l c) (λ κs x. solve_outcome x) 2 (solve.Reads.Post T l c G d C e)
  solve_never_steered = steered.solve_never_steered T l c G d C e dual_laws

  pub inverse_never_steered : InverseNeverSteered (inverse.Kinds.r T l c) (λ κs x. solve_outcome x) 2 (inverse.Reads.Post T l c G d C e)
  inverse_never_steered = steered.inverse_never_steered T l c G d C e dual_laws

  pub determinant_never_steered : DeterminantNeverSteered G.algebra (determinant.Kinds.r T l c) (λ κs x. outcome x) 2 (determinant.Reads.Post T l c G d C e)
  determinant_never_steered = steered.determinant_never_steered T l c G d C e dual_laws
