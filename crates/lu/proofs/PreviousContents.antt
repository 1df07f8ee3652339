-- Of the contracts themselves. What a result buffer held before has no effect: two calls with equal inputs, and result's buffers of equal lengths, give the same answer
-- (and column), and where they write leave the same, whole. A refused call writes nothing, but for LU's 6, which leaves zeros. Assumes nothing.
use mir.Syntax.{Dict}
use denote.RattleType.{RattleType}
use denote.Param.Laws as param
use Rattle.std.specs.declared.clone.Clone as clone
use Rattle.algebra.specs.Outcome.{outcome}
use Rattle.algebra.proofs.Laws.{Laws}
use Rattle.records.specs.declared.Record as record-trait
use Rattle.matrices.specs.Answers.{lu_outcome, lu_column, solve_outcome}
use Rattle.matrices.proofs.Calls.{LuPreviousContents, lu_previous_contents_by, LuNothingWritten, lu_nothing_written_by, LuZeros, lu_zeros_by}
use Rattle.matrices.proofs.Calls.{SolvePreviousContents, solve_previous_contents_by, SolveNothingWritten, solve_nothing_written_by}
use Rattle.matrices.proofs.Calls.{InversePreviousContents, inverse_previous_contents_by, InverseNothingWritten, inverse_nothing_written_by, DeterminantSameInputs, determinant_same_inputs_by}
use Rattle.lu.proofs.lu as lu
use Rattle.lu.proofs.solve as solve
use Rattle.lu.proofs.determinant as determinant
use Rattle.lu.proofs.inverse as inverse

-- over any record T whose operations and layout (G) keep the laws Q; the others are what a generic function takes with its type
module _ (T : RattleType) (l : param.Laws T) (c : param.IsCopy T) (G : record-trait.Ghosts T.Denot) (d : Dict) (C : clone.Ghosts T.Denot) (e : Dict) (Q : Laws G.algebra G.layout) where
  pub lu_previous_contents : LuPreviousContents (lu.Kinds.r T l c) (λ κs x. lu_outcome x) (λ κs x. lu_column x) (lu.Reads.Post T l c G d C e)
  lu_previous_contents = lu_previous_contents_by (lu.Kinds.r T l c) (λ κs x. lu_outcome x) (λ κs x. lu_column x) Q

  pub lu_nothing_written : LuNothingWritten (lu.Kinds.r T l c) (λ κs x. lu_outcome x) (λ κs x. lu_column x) (lu.Reads.Post T l c G d C e)
  lu_nothing_written = lu_nothing_written_by (lu.Kinds.r T l c) (λ κs x. lu_outcome x) (λ κs x. lu_column x) Q

  pub lu_zeros : LuZeros (lu.Kinds.r T l c) (λ κs x. lu_outcome x) (λ κs x. lu_column x) G.layout.width (lu.Reads.Post T l c G d C e)
  lu_zeros = lu_zeros_by (lu.Kinds.r T l c) (λ κs x. lu_outcome x) (λ κs x. lu_column x) Q

  pub solve_previous_contents : SolvePreviousContents (solve.Kinds.r T l c) (λ κs x. solve_outcome x) (solve.Reads.Post T l c G d C e)
  solve_previous_contents = solve_previous_contents_by (solve.Kinds.r T l c) (λ κs x. solve_outcome x) Q

  pub solve_nothing_written : SolveNothingWritten (solve.Kinds.r T l c) (λ κs x. solve_outcome x) (solve.Reads.Post T l c G d C e)
  solve_nothing_written = solve_nothing_written_by (solve.Kinds.r T l c) (λ κs x. solve_outcome x) Q

  pub inverse_previous_contents : InversePreviousContents (inverse.Kinds.r T l c) (λ κs x. solve_outcome x) (inverse.Reads.Post T l c G d C e)
  inverse_previous_contents = inverse_previous_contents_by (inverse.Kinds.r T l c) (λ κs x. solve_outcome x) Q

  pub inverse_nothing_written : InverseNothingWritten (inverse.Kinds.r T l c) (λ κs x. solve_outcome x) (inverse.Reads.Post T l c G d C e)
  inverse_nothing_written = inverse_nothing_written_by (inverse.Kinds.r T l c) (λ κs x. solve_outcome x) Q

  pub determinant_same_inputs : DeterminantSameInputs G.algebra (determinant.Kinds.r T l c) (λ κs x. outcome x) (determinant.Reads.Post T l c G d C e)
  determinant_same_inputs = determinant_same_inputs_by Q (determinant.Kinds.r T l c) (λ κs x. outcome x)
