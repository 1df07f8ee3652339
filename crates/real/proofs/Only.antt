-- That a promise leaves one outcome, stated of the contract itself as the source has it. Definitions only.
-- `ps` and `r` are the function's parameters and result (its module `Kinds`), `pre` and `post` its `requires` and `ensures` (its module `Reads`).
use mathlib.Core.Path.{◌≡◌}
use mathlib.Core.List.{List}
use Prim.Native.Nat.{ℕ}
use borrow.Fn.Kinds.{ParamKind, ResultKind, In, Out, Dens, res_t, ended_of}
use contract.Lifetimes.{Lfts}
use denote.Triple.Clauses.{Lasts, at_exit}

-- Whatever the arguments a, two outcomes that meet the promise are one: the answers x and y, and what the lent parameters hold at exit, v and w.
abbrev pub Only : (n : ℕ) (ps : List (ParamKind n)) (r : ResultKind n) → In n ps → Out n ps r → Type 0
Only n ps r pre post =
    (κs : Lfts n) (a : Dens κs ps) (x y : (res_t r κs).Denot) (v w : Lasts (ended_of n ps r) κs a) →
    pre κs a →
    post κs a x (at_exit (ended_of n ps r) κs a v) →
    post κs a y (at_exit (ended_of n ps r) κs a w) →
    (x ≡ y) × (at_exit (ended_of n ps r) κs a v ≡ at_exit (ended_of n ps r) κs a w)
