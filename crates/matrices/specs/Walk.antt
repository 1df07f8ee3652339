-- Determinant's refusals in the parts in which the code finds them: it tests the order in its one walk. Definitions only.
use Rattle.std.specs.Prelude.{ℕ, ◌*◌, ◌%◌, cond, ◌&&◌, ltb, eqb}
use Rattle.refusals.specs.Largest as largest
use Rattle.refusals.specs.Number as refusal
use Rattle.orders.specs.Walk.{is_full}
use Rattle.orders.specs.declared.Marks.{Marks}
use Rattle.matrices.specs.Entries.{count_refusal}

-- 1 and 2 of determinant
abbrev pub lengths_refusal : ℕ → ℕ → ℕ → ℕ → ℕ
lengths_refusal w n factors order =
    cond (ltb largest.n n) refusal.too_large
    (cond (eqb factors (n * n * w) && eqb order n) 0 refusal.wrong_length)

-- 7 and 8 of determinant, by what the walk has marked
abbrev pub walked_refusal : ℕ → Marks → ℕ → ℕ
walked_refusal n m swaps = cond (is_full n m.word) (count_refusal (eqb (m.inversions % 2) 1) swaps) refusal.not_an_order
