-- The sweeps: loops over the buffers of a sweep, a sweep by its two cases, and the run. Assumes nothing.
use Prim.Native.Nat.{ℕ, ◌+◌, ◌*◌, ◌≤◌, ◌<◌}
use mathlib.Core.Path.{◌≡◌, refl, ap, sym, ◌∙◌}
use mathlib.Core.Bool.{Bool, true, false, cond}
use mathlib.Core.List.{List}
use native.Mathlib.Omega.{arith}
use lib.Dec.{T}
use lib.ListN.{length, replicate}
use lib.IntN.{pos}
use lib.Ieee.{Float, binary64, eq, in_float}
use borrow.Author.Tests.{le-leb}
use Rattle.refusals.specs.Largest as largest
use Rattle.real.specs.Operations as float
use Rattle.real.specs.Operations.{◌⊕◌, ◌⊗◌}
use Rattle.algebra.specs.Algebra.{Algebra, zero_of}
use Rattle.algebra.specs.Loop.{upto}
use Rattle.algebra.proofs.Loop.{upto_keep, upto_step, upto_turn, upto_end}
use Rattle.dual.specs.declared.Dual.{Dual}
use Rattle.dual.specs.Rules.{dual_algebra}
use Rattle.matrices.specs.Matrix.{cell}
use Rattle.rotations.specs.declared.work.Work as lent
use Rattle.rotations.specs.Vector.{Vector}
use Rattle.rotations.specs.Buffers.{work_of, SameWork}
use Rattle.rotations.proofs.Same.{same_work}
use Rattle.rotations.specs.Rotation.{Work, work}
use Rattle.jacobi.specs.Answer.{eigen_of, run_of, run_after}
use Rattle.jacobi.specs.Sort.{ended}
use Rattle.jacobi.specs.Sweeps.{Run, going, settled, add_square, threshold_of, sweep, add_all, close_sweep, step}

-- ---- the threshold

-- n is a float
pub in_float_lem : (n : ℕ) → n ≤ largest.n → T (in_float binary64 (pos n))
unfolding in_float
in_float_lem n h = let small : n ≤ 9007199254740992 = omega arith in rw (le-leb n 9007199254740992 small) tt

-- one square more
pub square_turn : {R : Type 0} (A : Algebra R) (n : ℕ) (a : List R) (j i : ℕ) (sum whole : Float) (x : R) → upto i j (add_square A n a j) sum ≡ whole → i < j → x ≡ cell A n a i j
    → upto (i + 1) j (add_square A n a j) (sum ⊕ A.re x ⊗ A.re x) ≡ whole
unfolding add_square
square_turn {R = R} A n a j i sum whole x r h e = upto_turn i j (add_square A n a j) sum _ h (ap (λ (y : R). sum ⊕ A.re y ⊗ A.re y) e) r

-- ---- a loop over a sweep's work

-- before turn i of those from lo on, each of which rotates at most `each` times: what is left to run gives the whole
pub record Working (f : ℕ → Work Dual → Work Dual) (lo each : ℕ) (first w : lent.Work) (whole : Work Dual) (i : ℕ) : Type 0 where
  pub from : lo ≤ i
  pub within : i ≤ first.n
  pub few : w.rotations + each * lo ≤ first.rotations + each * i
  pub same : SameWork first w
  pub rest : upto i first.n f (work_of w) ≡ whole

module _ (f : ℕ → Work Dual → Work Dual) (lo each : ℕ) (first w : lent.Work) (whole : Work Dual) (i : ℕ) (s : Working f lo each first w whole i) where
  pub work_turn : (w' : lent.Work) → i < first.n → SameWork w w' → work_of w' ≡ f i (work_of w) → w'.rotations ≤ w.rotations + each → Working f lo each first w' whole (i + 1)
  work_turn w' h m e k = record {
    from = omega (arith, s.from);
    within = omega arith;
    few = let t : each * (i + 1) ≡ each * i + each = omega arith in omega (arith, s.few);
    same = same_work first w w' s.same m;
    rest = upto_turn i first.n f (work_of w) (work_of w') h e s.rest;
  }

  pub work_end : first.n ≤ i → work_of w ≡ whole
  work_end h = upto_end i first.n f (work_of w) h s.rest

-- ---- a sweep by its two cases

module _ {R : Type 0} (A : Algebra R) (n it-num : ℕ) (a v d zw bw : List R) (rotations sweeps : ℕ) (thresh : Float) (et : thresh ≡ threshold_of A n a) where
  cases : (t : Bool) → eq thresh float.zero ≡ t
      → cond t (settled (work a v d zw rotations) sweeps) (close_sweep A n bw sweeps (sweep A n thresh it-num (work a v d zw rotations))) ≡ step A n it-num (going (work a v d zw rotations) bw sweeps)
  unfolding step
  cases t e =
      let w = work a v d zw rotations in
      (λ i. cond (sym e i) (settled w sweeps) (close_sweep A n bw sweeps (sweep A n thresh it-num w)))
      ∙ ap (λ (h : Float). cond (eq h float.zero) (settled w sweeps) (close_sweep A n bw sweeps (sweep A n h it-num w))) et

  pub step_stops : eq thresh float.zero ≡ true → settled (work a v d zw rotations) sweeps ≡ step A n it-num (going (work a v d zw rotations) bw sweeps)
  step_stops e = cases true e

  pub step_sweeps : (a' v' d' zw' d'' zw'' bw'' : List R) (more : ℕ) → eq thresh float.zero ≡ false → work a' v' d' zw' more ≡ sweep A n thresh it-num (work a v d zw rotations)
      → bw'' ≡ add_all A n zw' bw → d'' ≡ add_all A n zw' bw → zw'' ≡ replicate n (zero_of A)
      → going (work a' v' d'' zw'' more) bw'' (sweeps + 1) ≡ step A n it-num (going (work a v d zw rotations) bw sweeps)
  unfolding close_sweep
  step_sweeps a' v' d' zw' d'' zw'' bw'' more e es eb ed ez =
      (λ i. going (work a' v' (ed i) (ez i) more) (eb i) (sweeps + 1)) ∙ ap (close_sweep A n bw sweeps) es ∙ cases false e

-- ---- the run

module _ {R : Type 0} (A : Algebra R) (n : ℕ) where
  -- what has settled stays so
  settled_stays : (k limit : ℕ) (w : Work R) (sweeps : ℕ) → upto k limit (step A n) (settled w sweeps) ≡ settled w sweeps
  unfolding step
  settled_stays k limit w sweeps = upto_keep (λ r. r ≡ settled w sweeps) (step A n) k limit (λ j r l u p. ap (step A n j) p) (settled w sweeps) refl

  -- a run that settles in sweep k ends there
  run_settles : (k limit : ℕ) (r t : Run R) (w : Work R) (sweeps : ℕ) → k < limit → settled w sweeps ≡ step A n k r → upto k limit (step A n) r ≡ t → settled w sweeps ≡ t
  run_settles k limit r t w sweeps h e i =
      sym (settled_stays (k + 1) limit w sweeps) ∙ ap (upto (k + 1) limit (step A n)) e ∙ sym (upto_step k limit (step A n) r h) ∙ i

-- before sweep it-num: what is left to run gives the whole
pub record Sweeping (limit : ℕ) (first w : lent.Work) (bw : List Float) (whole : Run Dual) (it-num : ℕ) : Type 0 where
  pub within : it-num ≤ limit
  pub few : w.rotations ≤ largest.n * largest.n * it-num
  pub sums : Vector first.n bw
  pub same : SameWork first w
  pub rest : upto it-num limit (step dual_algebra first.n) (run_of w bw it-num) ≡ whole

module _ (limit : ℕ) (first w : lent.Work) (bw : List Float) (whole : Run Dual) (it-num : ℕ) (s : Sweeping limit first w bw whole it-num) where
  module _ (w' : lent.Work) (bw' : List Float) (stopped : Bool) (h : it-num < limit) (e : run_after stopped w' bw' it-num ≡ step dual_algebra first.n it-num (run_of w bw it-num)) where
    pub sweeps_turn : stopped ≡ false → w'.rotations ≤ w.rotations + largest.n * largest.n → length bw' ≡ length bw → SameWork w w' → Sweeping limit first w' bw' whole (it-num + 1)
    sweeps_turn g k l m = record {
      within = omega arith;
      few = omega (arith, s.few);
      sums = record { full = l ∙ s.sums.full };
      same = same_work first w w' s.same m;
      rest = upto_turn it-num limit (step dual_algebra first.n) (run_of w bw it-num) (run_of w' bw' (it-num + 1)) h (sym (ap (λ (t : Bool). run_after t w' bw' it-num) g) ∙ e) s.rest;
    }

    pub sweeps_stop : stopped ≡ true → eigen_of w' (record { sweeps = it-num; stopped = true }) ≡ ended whole
    sweeps_stop g =
        ap ended (run_settles dual_algebra first.n it-num limit (run_of w bw it-num) whole (work_of w') it-num h
        (sym (ap (λ (t : Bool). run_after t w' bw' it-num) g) ∙ e) s.rest)

  pub sweeps_end : limit ≤ it-num → eigen_of w (record { sweeps = limit; stopped = false }) ≡ ended whole
  sweeps_end h =
      ap (λ (k : ℕ). eigen_of w (record { sweeps = k; stopped = false })) (let m = s.within in omega arith)
      ∙ ap ended (upto_end it-num limit (step dual_algebra first.n) (run_of w bw it-num) h s.rest)
