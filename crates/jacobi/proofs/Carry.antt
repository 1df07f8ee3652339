-- What carries a run of Jacobi over one record to the run over another: a map of records that keeps the operations, and a map of matrices that keeps what
-- stands on and above the diagonal. Once over the record. Assumes nothing.
use Prim.Native.Nat.{ℕ, ◌+◌, ◌-◌, ◌*◌}
use mathlib.Core.Path.{◌≡◌, refl, ap, ◌∙◌}
use mathlib.Core.Bool.{cond}
use mathlib.Core.List.{List, map}
use native.Mathlib.Omega.{arith}
use lib.Dec.{eqb}
use lib.ListN.{set, replicate}
use lib.IntN.{pos}
use lib.Ieee.{Float, binary64, eq, lt, of_int}
use Rattle.real.specs.Operations as float
use Rattle.real.specs.Operations.{◌⊕◌, ◌⊗◌, ◌⊘◌, one}
use Rattle.real.specs.Root.{root_of}
use Rattle.algebra.specs.Algebra.{Algebra, Keeps, zero_of, one_of}
use Rattle.algebra.specs.Loop.{upto}
use Rattle.algebra.proofs.Loop.{upto_carry, upto_map}
use Rattle.matrices.specs.Matrix.{cell, store, exchange}
use Rattle.rotations.specs.Rotation.{Work, work, pair}
use Rattle.algebra.proofs.RealParts.{cond_map}
use Rattle.matrices.proofs.Slopes.{map_set, map_replicate, exchange_map}
use Rattle.rotations.proofs.Carry.{re_keeps, item_keeps, map_work, Follows, store_map, pair_carry}
use Rattle.jacobi.specs.Sweeps.{Run, going, settled, add_square, column_squares, sum_of_squares, threshold_of, row, sweep, add_item, add_all, close_sweep, step, put_one, identity, put_diagonal, diagonal, start, sweeps_of}
use Rattle.jacobi.specs.Sort.{Pairs, pairs, Eigen, smaller, least, exchange_in_row, exchange_columns, bring_smallest, select, sort, eigen, ended, ordered, jacobi_of}

blank_map : {R S : Type 0} {A : Algebra R} {B : Algebra S} {g : R → S} → Keeps A B g → (c : ℕ) → map g (replicate c (zero_of A)) ≡ replicate c (zero_of B)
blank_map {A = A} {g = g} k c = map_replicate g c (zero_of A) ∙ ap (replicate c) (k.from_re float.zero)

abbrev pub map_run : {R S : Type 0} → (List R → List S) → (R → S) → Run R → Run S
map_run m g (going w bw sweeps) = going (map_work m g w) (map g bw) sweeps
map_run m g (settled w sweeps) = settled (map_work m g w) sweeps

abbrev map_pairs : {R S : Type 0} → (R → S) → Pairs R → Pairs S
map_pairs g e = pairs (map g e.d) (map g e.v)

abbrev pub map_eigen : {R S : Type 0} → (R → S) → Eigen R → Eigen S
map_eigen g e = eigen (map g e.values) (map g e.vectors) e.sweeps e.rotations e.stopped

module _ {R S : Type 0} {A : Algebra R} {B : Algebra S} {g : R → S} (k : Keeps A B g) (n : ℕ) where
  exchange_columns_map : (m c : ℕ) (v : List R) → map g (exchange_columns A n m c v) ≡ exchange_columns B n m c (map g v)
  unfolding exchange_columns exchange_in_row
  exchange_columns_map m c v =
      upto_map (map g) (exchange_in_row A n m c) (exchange_in_row B n m c)
      (λ l w. exchange_map g (zero_of A) (l * n + m) (l * n + c) w ∙ ap (λ (z : S). exchange z (l * n + m) (l * n + c) (map g w)) (k.from_re float.zero)) 0 n v

  smaller_keeps : (d : List R) (l m : ℕ) → smaller A n d l m ≡ smaller B n (map g d) l m
  unfolding smaller
  smaller_keeps d l m = λ i. cond (lt (re_keeps k _ _ (item_keeps k d l) i) (re_keeps k _ _ (item_keeps k d m) i)) l m

  least_keeps : (d : List R) (c : ℕ) → least A n d c ≡ least B n (map g d) c
  unfolding least
  least_keeps d c = upto_map (λ m. m) (smaller A n d) (smaller B n (map g d)) (smaller_keeps d) (c + 1) n c

  bring_smallest-map : (m c : ℕ) (e : Pairs R) → map_pairs g (bring_smallest A n m c e) ≡ bring_smallest B n m c (map_pairs g e)
  unfolding bring_smallest
  bring_smallest-map m c e =
      cond_map (map_pairs g) (eqb m c) e (pairs (exchange (zero_of A) m c e.d) (exchange_columns A n m c e.v))
      ∙ (λ i. cond (eqb m c) (map_pairs g e) (pairs ((exchange_map g (zero_of A) m c e.d ∙ ap (λ (z : S). exchange z m c (map g e.d)) (k.from_re float.zero)) i) (exchange_columns_map m c e.v i)))

  sort_map : (e : Pairs R) → map_pairs g (sort A n e) ≡ sort B n (map_pairs g e)
  unfolding sort select
  sort_map e =
      upto_map (map_pairs g) (select A n) (select B n)
      (λ c e'. bring_smallest-map (least A n e'.d c) c e' ∙ ap (λ (m : ℕ). bring_smallest B n m c (map_pairs g e')) (least_keeps e'.d c)) 0 (n - 1) e

  add_all_map : (zw bw : List R) → map g (add_all A n zw bw) ≡ add_all B n (map g zw) (map g bw)
  unfolding add_all add_item
  add_all_map zw bw =
      upto_map (map g) (add_item A n zw) (add_item B n (map g zw))
      (λ i b. map_set g b i _ ∙ ap (set (map g b) i) (k.add _ _ ∙ (λ j. B.add (item_keeps k b i j) (item_keeps k zw i j)))) 0 n bw

  identity_map : map g (identity A n) ≡ identity B n
  unfolding identity put_one
  identity_map =
      upto_map (map g) (put_one A n) (put_one B n)
      (λ i v. store_map k n v i i (one_of A) ∙ ap (store B n (map g v) i i) (k.from_re one)) 0 n (replicate (n * n) (zero_of A))
      ∙ ap (upto 0 n (put_one B n)) (blank_map k (n * n))

module _ {R S : Type 0} {A : Algebra R} {B : Algebra S} {g : R → S} {n : ℕ} {m : List R → List S} (f : Follows A B g n m) where
  sweep_carry : (thresh : Float) (it-num : ℕ) (w : Work R) → map_work m g (sweep A n thresh it-num w) ≡ sweep B n thresh it-num (map_work m g w)
  unfolding sweep row
  sweep_carry thresh it-num w =
      upto_carry (map_work m g) (row A n thresh it-num) (row B n thresh it-num) 0 n
      (λ p w' l u. upto_carry (map_work m g) (pair A n thresh it-num p) (pair B n thresh it-num p) (p + 1) n (λ q w'' l' u'. pair_carry f thresh it-num p q (omega arith) u' w'') w') w

  threshold_keeps : (a : List R) → threshold_of A n a ≡ threshold_of B n (m a)
  unfolding threshold_of sum_of_squares column_squares add_square
  threshold_keeps a =
      ap (λ (t : Float). root_of binary64 t ⊘ of_int binary64 (pos n))
      (upto_carry (λ t. t) (column_squares A n a) (column_squares B n (m a)) 0 n
      (λ j t l u. upto_carry (λ t'. t') (add_square A n a j) (add_square B n (m a) j) 0 j
      (λ i t' l' u'. let e = re_keeps f.keeps _ _ (f.reads a i j (omega arith) u) in λ z. t' ⊕ e z ⊗ e z) t) float.zero)

  step_carry : (it-num : ℕ) (r : Run R) → map_run m g (step A n it-num r) ≡ step B n it-num (map_run m g r)
  unfolding step close_sweep
  step_carry it-num (settled w sweeps) = refl
  step_carry it-num (going w bw sweeps) =
      let thresh = threshold_of A n w.a in
      let swept = sweep A n thresh it-num w in
      let closed : map_run m g (close_sweep A n bw sweeps swept) ≡ close_sweep B n (map g bw) sweeps (sweep B n thresh it-num (map_work m g w))
      = (λ i. let sums = add_all_map f.keeps n swept.zw bw i in going (work (m swept.a) (map g swept.v) sums (blank_map f.keeps n i) swept.rotations) sums (sweeps + 1))
      ∙ ap (close_sweep B n (map g bw) sweeps) (sweep_carry thresh it-num w) in
      cond_map (map_run m g) (eq thresh float.zero) (settled w sweeps) (close_sweep A n bw sweeps swept)
      ∙ ap (cond (eq thresh float.zero) (settled (map_work m g w) sweeps)) closed
      ∙ ap (λ (t : Float). cond (eq t float.zero) (settled (map_work m g w) sweeps) (close_sweep B n (map g bw) sweeps (sweep B n t it-num (map_work m g w)))) (threshold_keeps w.a)

  diagonal_carry : (a : List R) → map g (diagonal A n a) ≡ diagonal B n (m a)
  unfolding diagonal put_diagonal
  diagonal_carry a =
      upto_carry (map g) (put_diagonal A n a) (put_diagonal B n (m a)) 0 n
      (λ i d l u. map_set g d i (cell A n a i i) ∙ ap (set (map g d) i) (f.reads a i i (omega arith) u)) (replicate n (zero_of A))
      ∙ ap (upto 0 n (put_diagonal B n (m a))) (blank_map f.keeps n)

  pub sweeps_carry : (limit : ℕ) (a : List R) → map_run m g (sweeps_of A n limit a) ≡ sweeps_of B n limit (m a)
  unfolding sweeps_of start
  sweeps_carry limit a =
      upto_map (map_run m g) (step A n) (step B n) step_carry 0 limit (start A n a)
      ∙ ap (upto 0 limit (step B n)) (λ i. going (work (m a) (identity_map f.keeps n i) (diagonal_carry a i) (blank_map f.keeps n i) 0) (diagonal_carry a i) 0)

  ended_carry : (r : Run R) → map_eigen g (ended r) ≡ ended (map_run m g r)
  ended_carry (going w bw sweeps) = refl
  ended_carry (settled w sweeps) = refl

  ordered_carry : (e : Eigen R) → map_eigen g (ordered A n e) ≡ ordered B n (map_eigen g e)
  unfolding ordered
  ordered_carry e = ap (λ (p : Pairs S). eigen p.d p.v e.sweeps e.rotations e.stopped) (sort_map f.keeps n (pairs e.values e.vectors))

  -- the run over A, mapped, is the run over B of the matrix mapped
  pub jacobi_carry : (limit : ℕ) (a : List R) → map_eigen g (jacobi_of A n limit a) ≡ jacobi_of B n limit (m a)
  unfolding jacobi_of
  jacobi_carry limit a = ordered_carry (ended (sweeps_of A n limit a)) ∙ ap (ordered B n) (ended_carry (sweeps_of A n limit a) ∙ ap ended (sweeps_carry limit a))
