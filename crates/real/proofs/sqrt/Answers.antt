-- A positive finite float goes by its pattern; infinity, the zeros, negatives and NaN are the definition's other cases. Assumes nothing.
use mathlib.Core.Path.{ap, ◌∙◌, subst, sym}
use lib.Dec.{T}
use lib.Ieee.{binary64}
use lib.Ieee.Bits.{of_bits-to_bits}
use Rattle.real.specs.Root.{root_of}
use Rattle.real.proofs.Ends.{Held, above_no_nan, above_bits, above_infinite, zero_root, other_root}
use Rattle.real.proofs.sqrt.Goals as goal

-- what is above zero is no NaN
pub float_to_bits-b : goal.float_to_bits-b
float_to_bits-b c = above_no_nan c.args.x c.if-x.true

-- a positive float's pattern is below infinity's, by the test
pub root_bits-requires : goal.root_bits-requires
root_bits-requires c =
    let held : Held c.args.x = c.well_formed.0.1 in
    (above_bits c.args.x held c.if-x.true, c.if-b-lt-INFINITY.true)

-- positive and finite: the root over patterns
pub returns-then-b-lt-INFINITY : goal.returns-then-b-lt-INFINITY
returns-then-b-lt-INFINITY c =
    let held : Held c.args.x = c.well_formed.0.1 in
    c.root_bits.ensures.1 ∙ ap (root_of binary64) (of_bits-to_bits binary64 c.args.x (subst T (sym held) tt))

-- infinity gives itself
pub returns-else-b-lt-INFINITY : goal.returns-else-b-lt-INFINITY
returns-else-b-lt-INFINITY c =
    let held : Held c.args.x = c.well_formed.0.1 in
    above_infinite c.args.x held c.if-x.true c.if-b-lt-INFINITY.false

-- the zeros give themselves
pub returns-then-x-2 : goal.returns-then-x-2
returns-then-x-2 c =
    let held : Held c.args.x = c.well_formed.0.1 in
    zero_root c.args.x held c.if-x-2.true

-- what is left is negative or a NaN
pub returns-else-x-2 : goal.returns-else-x-2
returns-else-x-2 c = other_root c.args.x c.if-x.false c.if-x-2.false
