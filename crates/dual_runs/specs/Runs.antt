-- A run of records, joined. Definitions only.
use Rattle.std.specs.Prelude.{List, [], ◌∷◌}

-- start and the records of the run, joined by op from left to right
abbrev pub joined : {R : Type 0} → (R → R → R) → R → List R → R
joined op start [] = start
joined op start (x ∷ run) = joined op (op start x) run
