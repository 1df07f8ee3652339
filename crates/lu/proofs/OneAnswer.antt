-- No second outcome meets the promise of an entry: one answer, and one content of each lent buffer. Assumes nothing.
use mir.Syntax.{Dict}
use denote.RattleType.{RattleType}
use denote.Param.Laws as param
use Rattle.std.specs.declared.clone.Clone as clone
use Rattle.real.proofs.Only.{Only}
use Rattle.algebra.specs.Outcome.{outcome}
use Rattle.algebra.proofs.Laws.{Laws}
use Rattle.records.specs.declared.Record as record-trait
use Rattle.algebra.proofs.Outcomes.{outcome_one}
use Rattle.matrices.specs.Answers.{lu_outcome, lu_column, solve_outcome}
use Rattle.matrices.proofs.Calls.{lu_one, solve_one, lu_only_by, solve_only_by, inverse_only_by, determinant_only_by}
use Rattle.lu.proofs.lu as lu
use Rattle.lu.proofs.solve as solve
use Rattle.lu.proofs.determinant as determinant
use Rattle.lu.proofs.inverse as inverse

-- over any record T whose operations and layout (G) keep the laws Q; the others are what a generic function takes with its type
module _ (T : RattleType) (l : param.Laws T) (c : param.IsCopy T) (G : record-trait.Ghosts T.Denot) (d : Dict) (C : clone.Ghosts T.Denot) (e : Dict) (Q : Laws G.algebra G.layout) where
  pub lu_only : Only 4 (lu.Kinds.ps T l c) (lu.Kinds.r T l c) (lu.Reads.Pre T l c G d C e) (lu.Reads.Post T l c G d C e)
  lu_only = lu_only_by (lu.Kinds.r T l c) (λ κs x. lu_outcome x) (λ κs x. lu_column x) Q (λ κs. lu_one) (lu.Reads.Pre T l c G d C e)

  pub solve_only : Only 5 (solve.Kinds.ps T l c) (solve.Kinds.r T l c) (solve.Reads.Pre T l c G d C e) (solve.Reads.Post T l c G d C e)
  solve_only = solve_only_by (solve.Kinds.r T l c) (λ κs x. solve_outcome x) Q (λ κs. solve_one) (solve.Reads.Pre T l c G d C e)

  pub inverse_only : Only 4 (inverse.Kinds.ps T l c) (inverse.Kinds.r T l c) (inverse.Reads.Pre T l c G d C e) (inverse.Reads.Post T l c G d C e)
  inverse_only = inverse_only_by (inverse.Kinds.r T l c) (λ κs x. solve_outcome x) Q (λ κs. solve_one) (inverse.Reads.Pre T l c G d C e)

  pub determinant_only : Only 3 (determinant.Kinds.ps T l c) (determinant.Kinds.r T l c) (determinant.Reads.Pre T l c G d C e) (determinant.Reads.Post T l c G d C e)
  determinant_only = determinant_only_by Q (determinant.Kinds.r T l c) (λ κs x. outcome x) (λ κs. outcome_one) (determinant.Reads.Pre T l c G d C e)
