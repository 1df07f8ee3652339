-- What carries a rotation over one record to the rotation over another: a map of records that keeps the operations, and a map of matrices that keeps what
-- stands on and above the diagonal. Once over the record. Assumes nothing.
use Prim.Native.Nat.{ℕ, ◌+◌, ◌*◌, ◌≤◌, ◌<◌}
use mathlib.Core.Path.{◌≡◌, refl, ap, sym, ◌∙◌}
use mathlib.Core.Bool.{cond, ◌&&◌}
use mathlib.Core.List.{List, map}
use native.Mathlib.Omega.{arith}
use lib.Dec.{ltb}
use lib.ListN.{get_or, set, get_or-map}
use lib.Ieee.{Float, eq, le}
use Rattle.real.specs.Operations as float
use Rattle.real.specs.Operations.{◌⊕◌, one, half, ten}
use Rattle.real.specs.Sign.{sign_of, abs_of}
use Rattle.algebra.specs.Algebra.{Algebra, Keeps, zero_of, add_float, magnitude}
use Rattle.algebra.specs.Loop.{upto}
use Rattle.algebra.proofs.Loop.{upto_carry, upto_map}
use Rattle.algebra.proofs.RealParts.{cond_map, magnitude_keeps}
use Rattle.derivatives.specs.Apply.{recip_of}
use Rattle.derivatives.proofs.RealParts.{recip_keeps}
use Rattle.matrices.specs.Matrix.{cell, store}
use Rattle.matrices.proofs.Slopes.{map_set}
use Rattle.rotations.specs.declared.Choice.{Choice}
use Rattle.rotations.specs.declared.Choice.TheVariants.{Keep, Clear, Rotate}
use Rattle.rotations.specs.Rotation.{Angle, angle, Work, work, gap_of, absorbed, choice_of, hypotenuse_of, tangent_of, rotation_tangent, angle_by, angle_of, turned_first, turned_second, item, shift, turn, turn_columns, turn_between, turn_rows, turn_above, rotate, act, pair}

-- ---- one entry

module _ {R S : Type 0} {A : Algebra R} {B : Algebra S} {g : R → S} (k : Keeps A B g) where
  gap_keeps : (x : R) → g (gap_of A x) ≡ gap_of B (g x)
  gap_keeps x = k.mul_float (magnitude A x) ten ∙ ap (λ (y : S). B.mul_float y ten) (magnitude_keeps k x)

  -- the real part of a sum with a magnitude, and of the magnitude
  pub re_keeps : (x : R) (y : S) → g x ≡ y → A.re x ≡ B.re y
  re_keeps x y e = k.re x ∙ ap B.re e

  absorbed_keeps : (x d : R) → absorbed A x d ≡ absorbed B (g x) (g d)
  unfolding absorbed
  absorbed_keeps x d =
      λ i. eq
      (re_keeps (A.add x (magnitude A d)) (B.add (g x) (magnitude B (g d))) (k.add x (magnitude A d) ∙ ap (B.add (g x)) (magnitude_keeps k d)) i)
      (re_keeps (magnitude A d) (magnitude B (g d)) (magnitude_keeps k d) i)

  choice_keeps : (thresh : Float) (it-num : ℕ) (x dp dq : R) → choice_of A thresh it-num x dp dq ≡ choice_of B thresh it-num (g x) (g dp) (g dq)
  unfolding choice_of
  choice_keeps thresh it-num x dp dq =
      let small : (d : R) → absorbed A (gap_of A x) d ≡ absorbed B (gap_of B (g x)) (g d) = λ d. absorbed_keeps (gap_of A x) d ∙ ap (λ (y : S). absorbed B y (g d)) (gap_keeps x) in
      λ i. cond (ltb 4 it-num && (small dp i && small dq i)) Clear (cond (le thresh (abs_of (k.re x i))) Rotate Keep)

  hypotenuse_keeps : (x : R) → g (hypotenuse_of A x) ≡ hypotenuse_of B (g x)
  unfolding hypotenuse_of
  hypotenuse_keeps x = simp (k.chain, k.re, k.with_re, k.mul)

  tangent_keeps : (theta : R) → g (tangent_of A theta) ≡ tangent_of B (g theta)
  unfolding tangent_of
  tangent_keeps theta =
      let t = recip_of A (A.add (magnitude A theta) (hypotenuse_of A theta)) in
      let t' = recip_of B (B.add (magnitude B (g theta)) (hypotenuse_of B (g theta))) in
      let e : g t ≡ t' = recip_keeps k _ ∙ ap (recip_of B) (k.add _ _ ∙ (λ i. B.add (magnitude_keeps k theta i) (hypotenuse_keeps theta i))) in
      cond_map g (sign_of (A.re theta)) (A.neg t) t ∙ (λ i. cond (sign_of (k.re theta i)) ((k.neg t ∙ ap B.neg e) i) (e i))

  rotation_tangent_keeps : (x h : R) → g (rotation_tangent A x h) ≡ rotation_tangent B (g x) (g h)
  unfolding rotation_tangent
  rotation_tangent_keeps x h =
      let sum : g (A.add (magnitude A h) (gap_of A x)) ≡ B.add (magnitude B (g h)) (gap_of B (g x)) = k.add _ _ ∙ (λ i. B.add (magnitude_keeps k h i) (gap_keeps x i)) in
      let theta : g (A.div (A.mul_float h half) x) ≡ B.div (B.mul_float (g h) half) (g x) = simp (k.div, k.mul_float) in
      cond_map g (eq (A.re (A.add (magnitude A h) (gap_of A x))) (A.re (magnitude A h))) (A.div x h) (tangent_of A (A.div (A.mul_float h half) x))
      ∙ (λ i. cond (eq (re_keeps _ _ sum i) (re_keeps _ _ (magnitude_keeps k h) i)) (k.div x h i) ((tangent_keeps (A.div (A.mul_float h half) x) ∙ ap (tangent_of B) theta) i))

abbrev pub map_angle : {R S : Type 0} → (R → S) → Angle R → Angle S
map_angle g t = angle (g t.s) (g t.tau) (g t.h)

abbrev pub map_work : {R S : Type 0} → (List R → List S) → (R → S) → Work R → Work S
map_work m g w = work (m w.a) (map g w.v) (map g w.d) (map g w.zw) w.rotations

module _ {R S : Type 0} {A : Algebra R} {B : Algebra S} {g : R → S} (k : Keeps A B g) where
  angle_by_keeps : (x t : R) → map_angle g (angle_by A x t) ≡ angle_by B (g x) (g t)
  unfolding angle_by
  angle_by_keeps x t =
      let c = recip_keeps k (hypotenuse_of A t) ∙ ap (recip_of B) (hypotenuse_keeps k t) in
      let s = k.mul t _ ∙ ap (B.mul (g t)) c in
      let more : (y : R) (z : S) → g y ≡ z → g (add_float A y one) ≡ add_float B z one = λ y z e. k.with_re y _ ∙ (λ i. B.with_re (e i) (re_keeps k y z e i ⊕ one)) in
      λ i. angle (s i) ((k.div _ _ ∙ (λ j. B.div (s j) (more _ _ c j))) i) (k.mul t x i)

  angle_keeps : (x dp dq : R) → map_angle g (angle_of A x dp dq) ≡ angle_of B (g x) (g dp) (g dq)
  angle_keeps x dp dq = angle_by_keeps x (rotation_tangent A x (A.sub dq dp)) ∙ ap (angle_by B (g x)) (rotation_tangent_keeps k x (A.sub dq dp) ∙ ap (rotation_tangent B (g x)) (k.sub dq dp))

  first_keeps : (s tau x h : R) → g (turned_first A s tau x h) ≡ turned_first B (g s) (g tau) (g x) (g h)
  unfolding turned_first
  first_keeps s tau x h = simp (k.sub, k.mul, k.add)

  second_keeps : (s tau x h : R) → g (turned_second A s tau x h) ≡ turned_second B (g s) (g tau) (g x) (g h)
  unfolding turned_second
  second_keeps s tau x h = simp (k.sub, k.mul, k.add)

  pub item_keeps : (d : List R) (p : ℕ) → g (item A d p) ≡ item B (map g d) p
  item_keeps d p = sym (get_or-map g d p (zero_of A)) ∙ ap (get_or (map g d) p) (k.from_re float.zero)

  shift_keeps : (p q : ℕ) (h : R) (d : List R) → map g (shift A p q h d) ≡ shift B p q (g h) (map g d)
  unfolding shift
  shift_keeps p q h d =
      let e = set d p (A.sub (item A d p) h) in
      let first : map g e ≡ set (map g d) p (B.sub (item B (map g d) p) (g h)) = map_set g d p _ ∙ ap (set (map g d) p) (k.sub _ _ ∙ ap (λ (y : S). B.sub y (g h)) (item_keeps d p)) in
      map_set g e q _ ∙ ap (set (map g e) q) (k.add _ _ ∙ ap (λ (y : S). B.add y (g h)) (item_keeps e q)) ∙ ap (λ (l : List S). set l q (B.add (item B l q) (g h))) first

-- ---- the matrix

-- g keeps the operations; m maps a matrix so that a record on or above the diagonal, read or stored, is mapped by g
pub record Follows {R S : Type 0} (A : Algebra R) (B : Algebra S) (g : R → S) (n : ℕ) (m : List R → List S) : Type 0 where
  pub keeps : Keeps A B g
  pub reads : (a : List R) (r c : ℕ) → r ≤ c → c < n → g (cell A n a r c) ≡ cell B n (m a) r c
  pub stores : (a : List R) (r c : ℕ) (x : R) → r ≤ c → c < n → m (store A n a r c x) ≡ store B n (m a) r c (g x)

module _ {R S : Type 0} {A : Algebra R} {B : Algebra S} {g : R → S} (k : Keeps A B g) (n : ℕ) where
  -- a map of every record reads and stores everywhere
  pub cell_map : (v : List R) (r c : ℕ) → g (cell A n v r c) ≡ cell B n (map g v) r c
  unfolding cell
  cell_map v r c = item_keeps k v (r * n + c)

  pub store_map : (v : List R) (r c : ℕ) (x : R) → map g (store A n v r c x) ≡ store B n (map g v) r c (g x)
  unfolding store
  store_map v r c x = map_set g v (r * n + c) x

  -- a turn is carried by a map m that is right at its two places
  turn_carry : (m : List R → List S) (s tau : R) (r c u w : ℕ)
      → ((a : List R) → g (cell A n a r c) ≡ cell B n (m a) r c) → ((a : List R) → g (cell A n a u w) ≡ cell B n (m a) u w)
      → ((a : List R) (x : R) → m (store A n a r c x) ≡ store B n (m a) r c (g x)) → ((a : List R) (x : R) → m (store A n a u w x) ≡ store B n (m a) u w (g x))
      → (a : List R) → m (turn A n s tau r c u w a) ≡ turn B n (g s) (g tau) r c u w (m a)
  unfolding turn
  turn_carry m s tau r c u w read1 read2 store1 store2 a =
      let x = turned_first A s tau (cell A n a r c) (cell A n a u w) in
      let y = turned_second A s tau (cell A n a r c) (cell A n a u w) in
      let x' = first_keeps k s tau (cell A n a r c) (cell A n a u w) ∙ (λ i. turned_first B (g s) (g tau) (read1 a i) (read2 a i)) in
      let y' = second_keeps k s tau (cell A n a r c) (cell A n a u w) ∙ (λ i. turned_second B (g s) (g tau) (read1 a i) (read2 a i)) in
      store2 (store A n a r c x) y ∙ (λ i. store B n ((store1 a x ∙ ap (store B n (m a) r c) x') i) u w (y' i))

  columns_map : (s tau : R) (p q rows : ℕ) (v : List R) → map g (turn_columns A n s tau p q rows v) ≡ turn_columns B n (g s) (g tau) p q rows (map g v)
  unfolding turn_columns
  columns_map s tau p q rows v =
      upto_map (map g) (λ j. turn A n s tau j p j q) (λ j. turn B n (g s) (g tau) j p j q)
      (λ j. turn_carry (map g) s tau j p j q (λ a. cell_map a j p) (λ a. cell_map a j q) (λ a. store_map a j p) (λ a. store_map a j q))
      0 rows v

module _ {R S : Type 0} {A : Algebra R} {B : Algebra S} {g : R → S} {n : ℕ} {m : List R → List S} (f : Follows A B g n m) where
  above_carry : (s tau : R) (p q : ℕ) → p < q → q < n → (a : List R) → m (turn_above A n s tau p q a) ≡ turn_above B n (g s) (g tau) p q (m a)
  unfolding turn_above turn_rows turn_between turn_columns
  above_carry s tau p q h h' a =
      let k = f.keeps in
      let at : (r c u w : ℕ) → r ≤ c → c < n → u ≤ w → w < n → (b : List R) → m (turn A n s tau r c u w b) ≡ turn B n (g s) (g tau) r c u w (m b)
      = λ r c u w l1 u1 l2 u2. turn_carry k n m s tau r c u w (λ b. f.reads b r c l1 u1) (λ b. f.reads b u w l2 u2) (λ b x. f.stores b r c x l1 u1) (λ b x. f.stores b u w x l2 u2) in
      let cleared : m (store A n a p q (zero_of A)) ≡ store B n (m a) p q (zero_of B) = f.stores a p q (zero_of A) (omega arith) h' ∙ ap (store B n (m a) p q) (k.from_re float.zero) in
      upto_carry m (λ j. turn A n s tau p j q j) (λ j. turn B n (g s) (g tau) p j q j) (q + 1) n (λ j b l u. at p j q j (omega arith) u (omega arith) u b) _
      ∙ ap (upto (q + 1) n (λ j. turn B n (g s) (g tau) p j q j))
      (upto_carry m (λ j. turn A n s tau p j j q) (λ j. turn B n (g s) (g tau) p j j q) (p + 1) q (λ j b l u. at p j j q (omega arith) (omega arith) (omega arith) h' b) _
      ∙ ap (upto (p + 1) q (λ j. turn B n (g s) (g tau) p j j q))
      (upto_carry m (λ j. turn A n s tau j p j q) (λ j. turn B n (g s) (g tau) j p j q) 0 p (λ j b l u. at j p j q (omega arith) (omega arith) (omega arith) h' b) _
      ∙ ap (upto 0 p (λ j. turn B n (g s) (g tau) j p j q)) cleared))

  rotate_carry : (p q : ℕ) (t : Angle R) → p < q → q < n → (w : Work R) → map_work m g (rotate A n p q t w) ≡ rotate B n p q (map_angle g t) (map_work m g w)
  unfolding rotate
  rotate_carry p q t h h' w =
      λ i. work
      (above_carry t.s t.tau p q h h' w.a i)
      (columns_map f.keeps n t.s t.tau p q n w.v i)
      (shift_keeps f.keeps p q t.h w.d i)
      (shift_keeps f.keeps p q t.h w.zw i)
      (w.rotations + 1)

  act_carry : (p q : ℕ) (c : Choice) → p < q → q < n → (w : Work R) → map_work m g (act A n p q c w) ≡ act B n p q c (map_work m g w)
  unfolding act
  act_carry p q Keep h h' w = refl
  act_carry p q Clear h h' w =
      λ i. work ((f.stores w.a p q (zero_of A) (omega arith) h' ∙ ap (store B n (m w.a) p q) (f.keeps.from_re float.zero)) i) (map g w.v) (map g w.d) (map g w.zw) w.rotations
  act_carry p q Rotate h h' w =
      rotate_carry p q _ h h' w
      ∙ ap (λ (t : Angle S). rotate B n p q t (map_work m g w))
      (angle_keeps f.keeps _ _ _ ∙ (λ i. angle_of B (f.reads w.a p q (omega arith) h' i) (item_keeps f.keeps w.d p i) (item_keeps f.keeps w.d q i)))

  pub pair_carry : (thresh : Float) (it-num p q : ℕ) → p < q → q < n → (w : Work R) → map_work m g (pair A n thresh it-num p q w) ≡ pair B n thresh it-num p q (map_work m g w)
  unfolding pair
  pair_carry thresh it-num p q h h' w =
      act_carry p q _ h h' w
      ∙ ap (λ (c : Choice). act B n p q c (map_work m g w))
      (choice_keeps f.keeps thresh it-num _ _ _ ∙ (λ i. choice_of B thresh it-num (f.reads w.a p q (omega arith) h' i) (item_keeps f.keeps w.d p i) (item_keeps f.keeps w.d q i)))
