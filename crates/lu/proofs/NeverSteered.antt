-- Slopes never steer (demand 3), of the contracts themselves: any two calls of an entry whose sizes, lengths, orders, counts and real parts agree, whatever the
-- derivative parts and whatever the result's buffers held, give the same answer, column, order and count, and the same real parts of what is written or handed back.
-- Assumes nothing.
use mir.Syntax.{Dict}
use denote.RattleType.{RattleType}
use denote.Param.Laws as param
use Rattle.std.specs.declared.clone.Clone as clone
use Rattle.algebra.specs.Outcome.{outcome}
use Rattle.algebra.proofs.Laws.{Laws}
use Rattle.records.specs.declared.Record as record-trait
use Rattle.matrices.specs.Answers.{lu_outcome, lu_column, solve_outcome}
use Rattle.matrices.proofs.Calls.{LuNeverSteered, lu_never_steered_by, SolveNeverSteered, solve_never_steered_by, InverseNeverSteered, inverse_never_steered_by, DeterminantNeverSteered, determinant_never_steered_by}
use Rattle.lu.proofs.lu as lu
use Rattle.lu.proofs.solve as solve
use Rattle.lu.proofs.determinant as determinant
use Rattle.lu.proofs.inverse as inverse

-- over any record T whose operations and layout (G) keep the laws Q; the others are what a generic function takes with its type
module _ (T : RattleType) (l : param.Laws T) (c : param.IsCopy T) (G : record-trait.Ghosts T.Denot) (d : Dict) (C : clone.Ghosts T.Denot) (e : Dict) (Q : Laws G.algebra G.layout) where
  pub lu_never_steered : LuNeverSteered (lu.Kinds.r T l c) (λ κs x. lu_outcome x) (λ κs x. lu_column x) G.layout.width (lu.Reads.Post T l c G d C e)
  lu_never_steered = lu_never_steered_by (lu.Kinds.r T l c) (λ κs x. lu_outcome x) (λ κs x. lu_column x) Q

  pub solve_never_steered : SolveNeverSteered (solve.Kinds.r T l c) (λ κs x. solve_outcome x) G.layout.width (solve.Reads.Post T l c G d C e)
  solve_never_steered = solve_never_steered_by (solve.Kinds.r T l c) (λ κs x. solve_outcome x) Q

  pub inverse_never_steered : InverseNeverSteered (inverse.Kinds.r T l c) (λ κs x. solve_outcome x) G.layout.width (inverse.Reads.Post T l c G d C e)
  inverse_never_steered = inverse_never_steered_by (inverse.Kinds.r T l c) (λ κs x. solve_outcome x) Q

  pub determinant_never_steered : DeterminantNeverSteered G.algebra (determinant.Kinds.r T l c) (λ κs x. outcome x) G.layout.width (determinant.Reads.Post T l c G d C e)
  determinant_never_steered = determinant_never_steered_by Q (determinant.Kinds.r T l c) (λ κs x. outcome x)
