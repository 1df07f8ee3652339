-- The entry refuses by the definition's number; where that is 0, the lengths are as a run asks, and the run is the definition's.
use mathlib.Core.Path.{ap, ◌∙◌}
use Prim.Native.Nat.{◌≤◌}
use native.Mathlib.Omega.{arith}
use Rattle.std.specs.Prelude.{Err}
use Rattle.std.proofs.lemmas.Result.{err_from_is_err_and}
use Rattle.refusals.specs.Largest as largest
use Rattle.jacobi.specs.Scratch.{small_n}
use Rattle.jacobi.proofs.Answered.{jacobi_unfit, jacobi_allowed, jacobi_small, jacobi_answers}
use Rattle.jacobi.proofs.jacobi_eigenvalue.Goals as goal

pub returns-in_err-refuse : goal.returns-in_err-refuse
returns-in_err-refuse c =
    let p = err_from_is_err_and c.from_residual.result c.from_residual.ensures.1 in
    jacobi_unfit _ _ _ _ _ _ c.refuse.ensures _ _ c.in_err-refuse.was (p.1 ∙ ap Err p.2)

pub returns-then-n-le-SMALL_N : goal.returns-then-n-le-SMALL_N
returns-then-n-le-SMALL_N c =
    let r = c.run_within-sweeps in
    jacobi_answers _ _ _ _ _ _ c.refuse.ensures _ c.in_ok-refuse.was _ _ _ r.auto.values r.auto.vectors r.ensures.values_after r.ensures.vectors_after r.ensures.sweeps

pub returns-else-n-le-SMALL_N : goal.returns-else-n-le-SMALL_N
returns-else-n-le-SMALL_N c =
    let r = c.run_within-sweeps-else-n-le-SMALL_N in
    jacobi_answers _ _ _ _ _ _ c.refuse.ensures _ c.in_ok-refuse.was _ _ _ r.auto.values r.auto.vectors r.ensures.values_after r.ensures.vectors_after r.ensures.sweeps
