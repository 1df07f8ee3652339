-- The values put in order with their columns, and the run whole. Assumes nothing.
use Prim.Native.Nat.{ℕ}
use mathlib.Core.Path.{◌≡◌, ap, sym, ◌∙◌}
use mathlib.Core.Bool.{Bool, true, false, cond}
use mathlib.Core.List.{List}
use lib.Ieee.{lt}
use borrow.Author.Tests.{eq-eqb, ne_eqb}
use Rattle.algebra.specs.Algebra.{Algebra, zero_of}
use Rattle.algebra.specs.Loop.{upto}
use Rattle.matrices.specs.Matrix.{exchange}
use Rattle.rotations.specs.Rotation.{item}
use Rattle.jacobi.specs.Sort.{Pairs, pairs, eigen, ended, smaller, least, exchange_columns, bring_smallest, select, sort, ordered, jacobi_of}
use Rattle.jacobi.specs.Sweeps.{Run, start, step, sweeps_of}

module _ {R : Type 0} (A : Algebra R) (n : ℕ) where
  module _ (d : List R) (l m : ℕ) (x y : R) (ex : x ≡ item A d l) (ey : y ≡ item A d m) where
    by_test : (t : Bool) → lt (A.re x) (A.re y) ≡ t → cond t l m ≡ smaller A n d l m
    unfolding smaller
    by_test t et = ap (λ (c : Bool). cond c l m) (sym et ∙ (λ i. lt (A.re (ex i)) (A.re (ey i))))

    pub smaller_moves : lt (A.re x) (A.re y) ≡ true → l ≡ smaller A n d l m
    smaller_moves e = by_test true e

    pub smaller_stays : lt (A.re x) (A.re y) ≡ false → m ≡ smaller A n d l m
    smaller_stays e = by_test false e

  -- the least from k on is at k already, or is brought there
  module _ (k m : ℕ) (d v : List R) (em : m ≡ least A n d k) where
    brought : Bool → Pairs R
    brought t = cond t (pairs d v) (pairs (exchange (zero_of A) (least A n d k) k d) (exchange_columns A n (least A n d k) k v))

    pub select_stays : m ≡ k → pairs d v ≡ select A n k (pairs d v)
    unfolding select bring_smallest brought
    select_stays h = sym (ap brought (eq-eqb (least A n d k) k (sym em ∙ h)))

    pub select_moves : (d' v' : List R) → (m ≡ k → ⊥) → d' ≡ exchange (zero_of A) m k d → v' ≡ exchange_columns A n m k v → pairs d' v' ≡ select A n k (pairs d v)
    unfolding select bring_smallest brought
    select_moves d' v' h ed ev =
        (λ i. pairs (ed i) (ev i))
        ∙ (λ i. pairs (exchange (zero_of A) (em i) k d) (exchange_columns A n (em i) k v))
        ∙ sym (ap brought (ne_eqb (least A n d k) k (λ z. h (em ∙ z))))

  -- the whole run: what it starts from, its sweeps, its order
  pub run_by : (limit : ℕ) (a : List R) (r : Run R) (values vectors values' vectors' : List R) (sweeps rotations : ℕ) (stopped : Bool) → r ≡ start A n a
      → eigen values vectors sweeps rotations stopped ≡ ended (upto 0 limit (step A n) r) → pairs values' vectors' ≡ sort A n (pairs values vectors)
      → eigen values' vectors' sweeps rotations stopped ≡ jacobi_of A n limit a
  unfolding jacobi_of ordered sweeps_of
  run_by limit a r values vectors values' vectors' sweeps rotations stopped e1 e2 e3 =
      ap (λ (p : Pairs R). eigen p.d p.v sweeps rotations stopped) e3 ∙ ap (ordered A n) (e2 ∙ ap (λ (t : Run R). ended (upto 0 limit (step A n) t)) e1)
