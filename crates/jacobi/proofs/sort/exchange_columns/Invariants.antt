-- The loop keeps: what is left to exchange gives the columns exchanged whole.
use Rattle.dual.specs.Rules.{dual_algebra, dual_records}
use Rattle.dual.specs.Laws.{dual_laws}
use Rattle.matrices.proofs.Turns.{Running}
use Rattle.jacobi.specs.Sort.{exchange_in_row, exchange_columns}
use Rattle.jacobi.proofs.sort.exchange_columns.Given as goal

abbrev pub invariant-loop-l : goal.invariant-loop-l
invariant-loop-l l = Running dual_laws (exchange_in_row dual_algebra l.n l.m l.k) l.n l.initial.v l.v l.l (exchange_columns dual_algebra l.n l.m l.k (dual_records l.initial.v))
