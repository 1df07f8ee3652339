-- What the sweeps start from, the sweeps and the order are the definition's own three steps.
use mathlib.Core.Path.{ap, ◌∙◌}
use Rattle.dual.specs.declared.Dual.{Dual}
use Rattle.dual.specs.Rules.{dual_algebra}
use Rattle.jacobi.specs.Sort.{Eigen}
use Rattle.jacobi.proofs.Ordered.{run_by}
use Rattle.jacobi.proofs.run.Goals as goal

pub returns : goal.returns
returns c =
    let p = c.prepare.ensures.same.n in
    let s = c.sweeps-ended.ensures.same.n in
    let e = run_by dual_algebra _ _ _ _ _ _ _ _ _ _ _ c.prepare.ensures.run_after (rw p at c.sweeps-ended.ensures.eigen_after) (rw (s ∙ p) at c.sort.ensures.pairs_after) in record {
      same_values = c.sort.ensures.same.d ∙ c.sweeps-ended.ensures.same.d ∙ c.prepare.ensures.same.d;
      same_vectors = c.sort.ensures.same.v ∙ c.sweeps-ended.ensures.same.v ∙ c.prepare.ensures.same.v;
      values_after = ap (λ (x : Eigen Dual). x.values) e;
      vectors_after = ap (λ (x : Eigen Dual). x.vectors) e;
      sweeps = ap (λ (x : Eigen Dual). x.sweeps) e;
    }
