-- The loop keeps: what is left to multiply gives the whole product (Joins).
use Rattle.std.proofs.Common.{length}
use Rattle.std.specs.Slice.Iter.{chunks_exact_rest, chunks_exact_size}
use Rattle.algebra.specs.Algebra.{one_of}
use Rattle.algebra.proofs.Joins.{Joining}
use Rattle.records.proofs.Record.product.Given as goal

abbrev pub invariant-loop-part : goal.invariant-loop-part
invariant-loop-part g l =
    let A = g.Self.Record.algebra in
    Joining g.Self.Record.layout A.mul (one_of A) l.floats l.acc (chunks_exact_size l.part-iterator) (chunks_exact_rest l.part-iterator) (length l.yielded)
