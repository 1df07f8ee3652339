-- One entry above the diagonal over any record: what is done with it, by which angle, and the rotation. The inner loop of `jacobi_eigenvalue` in linalg.rs. Definitions only.
use Rattle.std.specs.Prelude.{ℕ, ◌+◌, Bool, cond, ◌&&◌, List, ltb, get_or, set, Float}
use Rattle.std.specs.Float.Ieee.{eq, le}
use Rattle.real.specs.Operations.{one, half, ten}
use Rattle.real.specs.Sign.{sign_of, abs_of}
use Rattle.algebra.specs.Algebra.{Algebra, zero_of, add_float, magnitude}
use Rattle.algebra.specs.Loop.{upto}
use Rattle.derivatives.specs.Apply.{recip_of, sqrt_of}
use Rattle.matrices.specs.Matrix.{cell, store}
use Rattle.rotations.specs.declared.Choice.{Choice}
use Rattle.rotations.specs.declared.Choice.TheVariants.{Keep, Clear, Rotate}

-- what a rotation is made with: s and tau turn, h moves between the diagonal entries
pub record Angle (R : Type 0) : Type 0 where
  pub s : R
  pub tau : R
  pub h : R

abbrev pub angle : {R : Type 0} → R → R → R → Angle R
angle s tau h = record { s = s; tau = tau; h = h }

-- what a sweep works on: the matrix a, the vectors v, the diagonal d, what the diagonal gained zw, and the rotations so far
pub record Work (R : Type 0) : Type 0 where
  pub a : List R
  pub v : List R
  pub d : List R
  pub zw : List R
  pub rotations : ℕ

abbrev pub work : {R : Type 0} → List R → List R → List R → List R → ℕ → Work R
work a v d zw rotations = record { a = a; v = v; d = d; zw = zw; rotations = rotations }

module _ {R : Type 0} (A : Algebra R) where
  -- gapq: |x| * 10
  abbrev pub gap_of : R → R
  gap_of x = A.mul_float (magnitude A x) ten

  -- gapq + |d| == |d|
  unfoldable pub absorbed : R → R → Bool
  absorbed gapq d = eq (A.re (A.add gapq (magnitude A d))) (A.re (magnitude A d))

  -- the entry x between the diagonal entries dp and dq in sweep it_num: a small one is cleared, only from sweep 5 on; else rotated if thresh <= |re|
  unfoldable pub choice_of : Float → ℕ → R → R → R → Choice
  choice_of thresh it-num x dp dq =
      cond (ltb 4 it-num && (absorbed (gap_of x) dp && absorbed (gap_of x) dq))
      Clear
      (cond (le thresh (abs_of (A.re x))) Rotate Keep)

  -- sqrt(x * x + 1)
  unfoldable pub hypotenuse_of : R → R
  hypotenuse_of x = sqrt_of A (add_float A (A.mul x x) one)

  -- 1 / (|theta| + sqrt(theta * theta + 1)), negated where theta has the sign bit
  unfoldable pub tangent_of : R → R
  tangent_of theta =
      let t = recip_of A (A.add (magnitude A theta) (hypotenuse_of theta)) in
      cond (sign_of (A.re theta)) (A.neg t) t

  -- t, for the entry x and the difference h of the diagonal entries: x / h where |h| + gapq == |h|
  unfoldable pub rotation_tangent : R → R → R
  rotation_tangent x h =
      cond (eq (A.re (A.add (magnitude A h) (gap_of x))) (A.re (magnitude A h)))
      (A.div x h)
      (tangent_of (A.div (A.mul_float h half) x))

  -- from t: c = 1 / sqrt(t * t + 1), s = t * c, tau = s / (c + 1), h = t * x
  unfoldable pub angle_by : R → R → Angle R
  angle_by x t =
      let c = recip_of A (hypotenuse_of t) in
      let s = A.mul t c in
      angle s (A.div s (add_float A c one)) (A.mul t x)

  -- the angle of the entry x between dp and dq
  abbrev pub angle_of : R → R → R → Angle R
  angle_of x dp dq = angle_by x (rotation_tangent x (A.sub dq dp))

  -- g - s * (h + g * tau)
  unfoldable pub turned_first : R → R → R → R → R
  turned_first s tau g h = A.sub g (A.mul s (A.add h (A.mul g tau)))

  -- h + s * (g - h * tau)
  unfoldable pub turned_second : R → R → R → R → R
  turned_second s tau g h = A.add h (A.mul s (A.sub g (A.mul h tau)))

  -- element p of a vector
  abbrev pub item : List R → ℕ → R
  item d p = get_or d p (zero_of A)

  -- d[p] -= h; d[q] += h
  unfoldable pub shift : ℕ → ℕ → R → List R → List R
  shift p q h d = let e = set d p (A.sub (item d p) h) in set e q (A.add (item e q) h)

  module _ (n : ℕ) where
    -- the entries at (r, c) and (u, w), g and h, turned
    unfoldable pub turn : R → R → ℕ → ℕ → ℕ → ℕ → List R → List R
    turn s tau r c u w m =
        let g = cell A n m r c in
        let h = cell A n m u w in
        store A n (store A n m r c (turned_first s tau g h)) u w (turned_second s tau g h)

    -- for j in 0..rows: (j, p) and (j, q)
    unfoldable pub turn_columns : R → R → ℕ → ℕ → ℕ → List R → List R
    turn_columns s tau p q rows m = upto 0 rows (λ j. turn s tau j p j q) m

    -- for j in p + 1..q: (p, j) and (j, q)
    unfoldable pub turn_between : R → R → ℕ → ℕ → List R → List R
    turn_between s tau p q m = upto (p + 1) q (λ j. turn s tau p j j q) m

    -- for j in q + 1..n: (p, j) and (q, j)
    unfoldable pub turn_rows : R → R → ℕ → ℕ → List R → List R
    turn_rows s tau p q m = upto (q + 1) n (λ j. turn s tau p j q j) m

    -- a[(p, q)] = 0, then the three loops over the part above the diagonal
    unfoldable pub turn_above : R → R → ℕ → ℕ → List R → List R
    turn_above s tau p q a = turn_rows s tau p q (turn_between s tau p q (turn_columns s tau p q p (store A n a p q (zero_of A))))

    -- the whole rotation
    unfoldable pub rotate : ℕ → ℕ → Angle R → Work R → Work R
    rotate p q t w =
        work
        (turn_above t.s t.tau p q w.a)
        (turn_columns t.s t.tau p q n w.v)
        (shift p q t.h w.d)
        (shift p q t.h w.zw)
        (w.rotations + 1)

    -- the entry (p, q) by the choice
    unfoldable pub act : ℕ → ℕ → Choice → Work R → Work R
    act p q Keep w = w
    act p q Clear w = work (store A n w.a p q (zero_of A)) w.v w.d w.zw w.rotations
    act p q Rotate w = rotate p q (angle_of (cell A n w.a p q) (item w.d p) (item w.d q)) w

    -- the entry (p, q) of sweep it_num
    unfoldable pub pair : Float → ℕ → ℕ → ℕ → Work R → Work R
    pair thresh it-num p q w = act p q (choice_of thresh it-num (cell A n w.a p q) (item w.d p) (item w.d q)) w
