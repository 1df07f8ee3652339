-- An odd exponent gives one factor 2 to the significand, an even one none. Assumes nothing.
use native.Mathlib.Omega.{arith}
use Rattle.real.proofs.Patterns.{even_yes, even_no}
use Rattle.real.proofs.root.even.Goals as goal

-- odd: twice the significand
pub returns-then-e-eq0 : goal.returns-then-e-eq0
returns-then-e-eq0 c = (omega arith, omega arith, even_yes c.args.a c.args.e c.if-e-eq0.true)

-- even: as it is
pub returns-else-e-eq0 : goal.returns-else-e-eq0
returns-else-e-eq0 c = (omega arith, omega arith, even_no c.args.a c.args.e c.if-e-eq0.false)
