-- The records that the lent floats of a sweep hold, and that they stay the same floats. Definitions only.
use Rattle.std.specs.Prelude.{ℕ, ◌≡◌}
use Rattle.dual.specs.declared.Dual.{Dual}
use Rattle.dual.specs.Rules.{dual_records}
use Rattle.rotations.specs.declared.Angle as code
use Rattle.rotations.specs.declared.work.Work as lent
use Rattle.rotations.specs.Rotation.{Angle, angle, Work, work}

-- what a sweep works on
abbrev pub work_of : lent.Work → Work Dual
work_of w = work (dual_records w.a.now) (dual_records w.v.now) (dual_records w.d.now) (dual_records w.zw.now) w.rotations

-- as many records, in the same lent floats
pub record SameWork (x y : lent.Work) : Type 0 where
  pub n : y.n ≡ x.n
  pub a : y.a.ghost_name ≡ x.a.ghost_name
  pub v : y.v.ghost_name ≡ x.v.ghost_name
  pub d : y.d.ghost_name ≡ x.d.ghost_name
  pub zw : y.zw.ghost_name ≡ x.zw.ghost_name

-- more rotations than any run makes: a count below it does not wrap
abbrev pub many_rotations : ℕ
many_rotations = 2000000

-- the parts of an angle
abbrev pub angle_parts : code.Angle → Angle Dual
angle_parts t = angle t.s t.tau t.h
