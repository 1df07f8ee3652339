-- The loop keeps: what is left to turn gives the columns whole.
use Rattle.dual.specs.Rules.{dual_algebra, dual_records}
use Rattle.dual.specs.Laws.{dual_laws}
use Rattle.matrices.proofs.Turns.{Running}
use Rattle.matrices.specs.Matrix.{Square}
use Rattle.rotations.specs.Rotation.{turn, turn_columns}
use Rattle.rotations.proofs.Angle.turn_columns.Given as goal

abbrev pub invariant-loop-j : goal.invariant-loop-j
invariant-loop-j l = Square 2 l.n l.a × Running dual_laws (λ j. turn dual_algebra l.n l.self.s l.self.tau j l.p j l.q) l.rows l.initial.a l.a l.j (turn_columns dual_algebra l.n l.self.s l.self.tau l.p l.q l.rows (dual_records l.initial.a))
