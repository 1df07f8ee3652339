-- The significand scaled, its exponent made even, the nearest whole root of it: together the pattern of the rounded root. Assumes nothing.
use Rattle.real.proofs.Patterns.{root_pattern}
use Rattle.real.proofs.root.root_bits.Goals as goal

-- the three steps' promises are the definition of the root over patterns
pub returns : goal.returns
returns c =
    let near = c.rounded_root-r in
    let even = c.even in
    let s = c.scale-s in
    root_pattern c.args.b s.result.a s.result.e even.result near.result s.ensures even.ensures.0 even.ensures.1 even.ensures.2 near.ensures.0 near.ensures.1 near.ensures.2
