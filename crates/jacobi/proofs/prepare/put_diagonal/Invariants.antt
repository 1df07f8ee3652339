-- The loop keeps: what is left to put gives the whole diagonal, in both vectors.
use mathlib.Core.Path.{◌≡◌}
use Rattle.algebra.specs.Loop.{upto}
use Rattle.dual.specs.Rules.{dual_algebra, dual_records}
use Rattle.rotations.specs.Buffers.{SameWork}
use Rattle.rotations.specs.Vector.{Vector}
use Rattle.jacobi.specs.Answer.{OthersKept}
use Rattle.jacobi.specs.Sweeps.{put_diagonal}
use Rattle.jacobi.proofs.prepare.put_diagonal.Given as goal

abbrev pub invariant-loop-i : goal.invariant-loop-i
invariant-loop-i l =
    let first = l.initial.work in
    let put = put_diagonal dual_algebra first.n (dual_records first.a.now) in record {
      same : SameWork first l.work;
      others : OthersKept first l.work;
      sums : Vector first.n l.bw;
      d : upto l.i first.n put (dual_records l.work.d.now) ≡ upto 0 first.n put (dual_records first.d.now);
      bw : upto l.i first.n put (dual_records l.bw) ≡ upto 0 first.n put (dual_records l.initial.bw);
    }
