-- The loop keeps: what is left to turn gives the part between whole.
use Rattle.dual.specs.Rules.{dual_algebra, dual_records}
use Rattle.dual.specs.Laws.{dual_laws}
use Rattle.matrices.proofs.Turns.{Running}
use Rattle.matrices.specs.Matrix.{Square}
use Rattle.rotations.specs.Rotation.{turn, turn_between}
use Rattle.rotations.proofs.Angle.turn_between.Given as goal

abbrev pub invariant-loop-j : goal.invariant-loop-j
invariant-loop-j l = Square 2 l.n l.a × Running dual_laws (λ j. turn dual_algebra l.n l.self.s l.self.tau l.p j j l.q) l.q l.initial.a l.a l.j (turn_between dual_algebra l.n l.self.s l.self.tau l.p l.q (dual_records l.initial.a))
