-- The run that the code's answer for a column leaves. Definitions only.
use Rattle.std.specs.Prelude.{ℕ, List, Result, Ok, Err}
use Rattle.matrices.specs.Lu.{Run, going, singular}
use Rattle.matrices.specs.declared.NoPivot.{NoPivot}

-- the run itself, with the matrix and the order as they then are
abbrev pub run_after : {B : Type 0} → Result ℕ NoPivot → List B → List ℕ → Run B
run_after (Ok swaps) a p = going a p swaps
run_after (Err e) a p = singular e.column

-- the swaps so far
abbrev pub swaps_of : Result ℕ NoPivot → ℕ
swaps_of (Ok swaps) = swaps
swaps_of (Err e) = 0
