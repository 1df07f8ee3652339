-- Of the contract of `lu` itself: a call that is done leaves a permutation of 0..n-1 in the order's buffer, with a swap count of its parity, at most n; every number
-- below n occurs in it. And of the contracts together: 7 and 8 never refuse what LU left, so that solve, inverse and determinant with its factors, its order and its
-- swap count are done. Assumes nothing.
use mir.Syntax.{Dict}
use denote.RattleType.{RattleType}
use denote.Param.Laws as param
use Rattle.std.specs.declared.clone.Clone as clone
use Rattle.algebra.specs.Outcome.{outcome}
use Rattle.algebra.proofs.Laws.{Laws}
use Rattle.records.specs.declared.Record as record-trait
use Rattle.matrices.specs.Answers.{lu_outcome, lu_column, solve_outcome}
use Rattle.matrices.proofs.Calls.{LuLeavesOrder, LuEveryRow, leaves_order_by, every_row_by, SolveAfterLu, solve_after_lu_by, InverseAfterLu, inverse_after_lu_by, DeterminantAfterLu, determinant_after_lu_by}
use Rattle.lu.proofs.lu as lu
use Rattle.lu.proofs.solve as solve
use Rattle.lu.proofs.determinant as determinant
use Rattle.lu.proofs.inverse as inverse

-- over any record T whose operations and layout (G) keep the laws Q; the others are what a generic function takes with its type
module _ (T : RattleType) (l : param.Laws T) (c : param.IsCopy T) (G : record-trait.Ghosts T.Denot) (d : Dict) (C : clone.Ghosts T.Denot) (e : Dict) (Q : Laws G.algebra G.layout) where
  pub leaves_order : LuLeavesOrder (lu.Kinds.r T l c) (λ κs x. lu_outcome x) (λ κs x. lu_column x) (lu.Reads.Post T l c G d C e)
  leaves_order = leaves_order_by (lu.Kinds.r T l c) (λ κs x. lu_outcome x) (λ κs x. lu_column x) Q

  pub every_row_occurs : LuEveryRow (lu.Kinds.r T l c) (λ κs x. lu_outcome x) (λ κs x. lu_column x) (lu.Reads.Post T l c G d C e)
  every_row_occurs = every_row_by (lu.Kinds.r T l c) (λ κs x. lu_outcome x) (λ κs x. lu_column x) Q

  pub solve_after_lu : SolveAfterLu (lu.Kinds.r T l c) (λ κs x. lu_outcome x) (λ κs x. lu_column x) (solve.Kinds.r T l c) (λ κs x. solve_outcome x) G.layout.width (lu.Reads.Post T l c G d C e) (solve.Reads.Post T l c G d C e)
  solve_after_lu = solve_after_lu_by (lu.Kinds.r T l c) (λ κs x. lu_outcome x) (λ κs x. lu_column x) (solve.Kinds.r T l c) (λ κs x. solve_outcome x) Q

  pub inverse_after_lu : InverseAfterLu (lu.Kinds.r T l c) (λ κs x. lu_outcome x) (λ κs x. lu_column x) (inverse.Kinds.r T l c) (λ κs x. solve_outcome x) G.layout.width (lu.Reads.Post T l c G d C e) (inverse.Reads.Post T l c G d C e)
  inverse_after_lu = inverse_after_lu_by (lu.Kinds.r T l c) (λ κs x. lu_outcome x) (λ κs x. lu_column x) (inverse.Kinds.r T l c) (λ κs x. solve_outcome x) Q

  pub determinant_after_lu : DeterminantAfterLu (lu.Kinds.r T l c) (λ κs x. lu_outcome x) (λ κs x. lu_column x) (determinant.Kinds.r T l c) (λ κs x. outcome x) (lu.Reads.Post T l c G d C e) (determinant.Reads.Post T l c G d C e)
  determinant_after_lu = determinant_after_lu_by (lu.Kinds.r T l c) (λ κs x. lu_outcome x) (λ κs x. lu_column x) (determinant.Kinds.r T l c) (λ κs x. outcome x) Q
