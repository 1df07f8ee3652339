-- What the code's structs say: values and vectors, and where a sweep leaves a run. Definitions only.
use Rattle.std.specs.Prelude.{ℕ, ◌+◌, ◌≡◌, Bool, true, false, List, Float}
use Rattle.dual.specs.declared.Dual.{Dual}
use Rattle.dual.specs.Rules.{dual_records}
use Rattle.rotations.specs.declared.work.Work.{Work}
use Rattle.rotations.specs.Buffers.{work_of}
use Rattle.jacobi.specs.declared.Ended.{Ended}
use Rattle.jacobi.specs.Sort.{Pairs, pairs, Eigen, eigen}
use Rattle.jacobi.specs.Sweeps.{Run, going, settled}

-- all but the diagonal d is as it was
pub record OthersKept (x y : Work) : Type 0 where
  pub a : y.a.now ≡ x.a.now
  pub v : y.v.now ≡ x.v.now
  pub zw : y.zw.now ≡ x.zw.now

-- values and vectors
abbrev pub pairs_of : Work → Pairs Dual
pairs_of w = pairs (dual_records w.d.now) (dual_records w.v.now)

-- what a run gives
abbrev pub eigen_of : Work → Ended → Eigen Dual
eigen_of w e = eigen (dual_records w.d.now) (dual_records w.v.now) e.sweeps w.rotations e.stopped

-- a run after so many sweeps, with the sums bw
abbrev pub run_of : Work → List Float → ℕ → Run Dual
run_of w bw sweeps = going (work_of w) (dual_records bw) sweeps

-- the run after sweep it_num, which stopped at a zero threshold or was made
abbrev pub run_after : Bool → Work → List Float → ℕ → Run Dual
run_after true w bw it-num = settled (work_of w) it-num
run_after false w bw it-num = run_of w bw (it-num + 1)
