-- The sum and the product of a run of records are those of its flat floats, over any record and its layout; at `Dual`, over the promises of both.
-- Assumes nothing.
use Prim.Native.Nat.{ℕ, zero, suc, ◌-◌, ◌%◌}
use mathlib.Core.Path.{◌≡◌, refl, ap, ◌∙◌}
use mathlib.Core.List.{List}
use native.Mathlib.Nat.{mul-mod_left}
use native.Mathlib.Omega.{arith}
use lib.ListN.{length}
use borrow.Author.Tests.{eq-eqb}
use Rattle.algebra.specs.Algebra.{Algebra, zero_of, one_of}
use Rattle.algebra.specs.Loop.{turns, upto}
use Rattle.algebra.specs.Flat.{Layout, Lawful, tabulate, record_at, record_count, decode, encode, sum_of, product_of}
use Rattle.algebra.specs.Outcome.{value}
use Rattle.algebra.proofs.Flat.{encode_length, decode_encode}
use Rattle.dual.specs.declared.Dual.{Dual}
use Rattle.dual.specs.Rules.{dual_add, dual_mul, dual_algebra, dual_layout}
use Rattle.dual.specs.Laws.{dual_lawful}
use Rattle.dual_runs.specs.Runs.{joined}

-- a loop that joins a table's values, turn by turn, joins the table
turns_joined : {R : Type 0} (op : R → R → R) (f : ℕ → R) (d k : ℕ) (start : R) → turns (λ p s. op s (f p)) d k start ≡ joined op start (tabulate f d k)
unfolding turns tabulate
turns_joined op f zero k start = refl
turns_joined op f (suc d) k start = turns_joined op f d (suc k) (op start (f k))

module _ {R : Type 0} (L : Layout R) (W : Lawful L) where
  flat_joined : (op : R → R → R) (start : R) (run : List R) → upto 0 (record_count L (encode L run)) (λ p s. op s (record_at L (encode L run) p)) start ≡ joined op start run
  unfolding upto decode
  flat_joined op start run =
      let count = record_count L (encode L run) in
      let all : count - 0 ≡ count = omega arith in
      ap (λ (d : ℕ). turns (λ p s. op s (record_at L (encode L run) p)) d 0 start) all
      ∙ turns_joined op (record_at L (encode L run)) count 0 start
      ∙ ap (joined op start) (decode_encode L W run)

  whole_records : (run : List R) → length (encode L run) % L.width ≡ 0
  whole_records run = ap (λ (n : ℕ). n % L.width) (encode_length L W run) ∙ mul-mod_left (length run) L.width

  module _ (A : Algebra R) (run : List R) where
    pub sum_agrees : sum_of L A (encode L run) ≡ value (joined A.add (zero_of A) run)
    unfolding sum_of
    sum_agrees = rw (eq-eqb (length (encode L run) % L.width) 0 (whole_records run)) (ap value (flat_joined A.add (zero_of A) run))

    pub product_agrees : product_of L A (encode L run) ≡ value (joined A.mul (one_of A) run)
    unfolding product_of
    product_agrees = rw (eq-eqb (length (encode L run) % L.width) 0 (whole_records run)) (ap value (flat_joined A.mul (one_of A) run))

-- at `Dual`: the promise of `dual_runs::sum` is that of `Dual::sum` on the run's flat floats, and so for the product
pub dual_sum_agrees : (run : List Dual) → sum_of dual_layout dual_algebra (encode dual_layout run) ≡ value (joined dual_add (zero_of dual_algebra) run)
dual_sum_agrees = sum_agrees dual_layout dual_lawful dual_algebra

pub dual_product_agrees : (run : List Dual) → product_of dual_layout dual_algebra (encode dual_layout run) ≡ value (joined dual_mul (one_of dual_algebra) run)
dual_product_agrees = product_agrees dual_layout dual_lawful dual_algebra
