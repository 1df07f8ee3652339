-- What a method answers, held to the recorded words. Definitions only.
use Rattle.std.specs.Prelude.{ℕ, Bool, true, cond, not, List, [], ◌∷◌, get_or, Float}
use Rattle.std.specs.Float.Ieee.{eq, lt, le}
use Rattle.real.specs.Operations as float
use Rattle.real.specs.Sign.{sign_of}
use Rattle.algebra.specs.Algebra.{Algebra, zero_of, one_of}
use Rattle.algebra.specs.Flat.{Layout}
use Rattle.derivatives.specs.Apply.{recip_of, sqrt_of}
use Rattle.calls.specs.Table.{find}
use Rattle.floats.specs.Words.{floats_of}
use Rattle.replay.specs.Same.{same_numbers}
use Rattle.replay_matrices.specs.Cases.{same_floats}

-- the float of word number i
abbrev pub float_at : List ℕ → ℕ → Float
float_at words i = get_or (floats_of words) i float.zero

-- a truth is the recorded 1 or 0
abbrev pub same_truth : List ℕ → Bool → Bool
same_truth wanted holds = same_numbers wanted (cond holds 1 0 ∷ [])

-- by function number (oracle/README.md): zero, one, scale, recip, inv, sqrt give the recorded record; eq, lt, le, gt, ge, is_negative, is_positive, is_zero, is_one the
-- recorded truth
abbrev pub methods : {R : Type 0} → Algebra R → Layout R → R → R → Float → List ℕ → List (ℕ × Bool)
methods A L x y a wanted =
    (0x01, same_floats wanted (L.parts (zero_of A))) ∷
    (0x02, same_floats wanted (L.parts (one_of A))) ∷
    (0x12, same_floats wanted (L.parts (A.mul_float x a))) ∷
    (0x18, same_floats wanted (L.parts (recip_of A x))) ∷
    (0x19, same_floats wanted (L.parts (recip_of A x))) ∷
    (0x1a, same_floats wanted (L.parts (sqrt_of A x))) ∷
    (0x3b, same_truth wanted (eq (A.re x) (A.re y))) ∷
    (0x3c, same_truth wanted (lt (A.re x) (A.re y))) ∷
    (0x3d, same_truth wanted (le (A.re x) (A.re y))) ∷
    (0x3e, same_truth wanted (lt (A.re y) (A.re x))) ∷
    (0x3f, same_truth wanted (le (A.re y) (A.re x))) ∷
    (0x40, same_truth wanted (sign_of (A.re x))) ∷
    (0x41, same_truth wanted (not (sign_of (A.re x)))) ∷
    (0x42, same_truth wanted (eq (A.re x) float.zero)) ∷
    (0x43, same_truth wanted (eq (A.re x) float.one)) ∷
    []

-- of any other function nothing is asked
unfoldable pub same_method : {R : Type 0} → Algebra R → Layout R → ℕ → R → R → Float → List ℕ → Bool
same_method A L n x y a wanted = find n (methods A L x y a wanted) true
