-- What LU left when it is done is what solve, inverse and determinant want: its lengths, its order, its count. LU keeps the number of records. Assumes nothing.
use Prim.Native.Nat.{ℕ, ◌+◌, ◌*◌}
use mathlib.Core.Path.{◌≡◌, refl, ap, sym, ◌∙◌}
use mathlib.Core.Bool.{Bool, true, false, cond}
use mathlib.Core.List.{List}
use lib.Dec.{eqb}
use lib.Ieee.{Float, eq}
use lib.ListN.{length, get_or, set, length-set}
use borrow.Author.Tests.{le-ltb, eq-eqb}
use Rattle.real.specs.Operations as float
use Rattle.refusals.specs.Largest as largest
use Rattle.algebra.specs.Algebra.{Algebra, zero_of}
use Rattle.algebra.specs.Flat.{Layout, Lawful, decode}
use Rattle.algebra.specs.Outcome.{value}
use Rattle.algebra.proofs.Flat.{decode_length, decode_size, encode_length}
use Rattle.algebra.proofs.Loop.{upto_keep}
use Rattle.matrices.specs.Entries.{solve_refusal, inverse_refusal, determinant_refusal, lu_finish, lu_left}
use Rattle.matrices.specs.Matrix.{exchange, exchange_rows, store}
use Rattle.matrices.specs.Lu.{Run, going, singular, count_up, bring_pivot, pivot_of, subtract, reduce_row, reduce, reduce_run, column, lu_of}
use Rattle.matrices.proofs.Answers.{LeavesOrder, not_both, lu_cases, accepted_order}
use Rattle.orders.proofs.Permutation.{order-is_order}

-- ---- LU keeps the number of records

exchange_size : {B : Type 0} (d : B) (p q : ℕ) (l : List B) → length (exchange d p q l) ≡ length l
unfolding exchange
exchange_size d p q l = length-set (set l p (get_or l q d)) q (get_or l p d) ∙ length-set l p (get_or l q d)

rows_size : {B : Type 0} (d : B) (k p q : ℕ) (l : List B) → length (exchange_rows d k p q l) ≡ length l
unfolding exchange_rows
rows_size {B} d k p q l = upto_keep (λ (m : List B). length m ≡ length l) _ 0 k (λ c m h h' e. exchange_size d (p * k + c) (q * k + c) m ∙ e) l refl

-- a run over k records
abbrev Holds : {B : Type 0} → ℕ → Run B → Type 0
Holds k (going a p swaps) = length a ≡ k
Holds k (singular c) = Unit {0}

module _ {R : Type 0} (A : Algebra R) (n : ℕ) where
  row_size : (i j : ℕ) (a : List R) → length (reduce_row A n i j a) ≡ length a
  unfolding reduce_row subtract store
  row_size i j a = upto_keep (λ (m : List R). length m ≡ length a) (subtract A n i j) (i + 1) n (λ k m h h' e. length-set m _ _ ∙ e) _ (length-set a _ _)

  reduce_size : (i : ℕ) (a : List R) → length (reduce A n i a) ≡ length a
  unfolding reduce
  reduce_size i a = upto_keep (λ (m : List R). length m ≡ length a) (reduce_row A n i) (i + 1) n (λ j m h h' e. row_size i j m ∙ e) a refl

  column_size : (k i : ℕ) (r : Run R) → Holds k r → Holds k (column A n i r)
  unfolding column bring_pivot
  column_size k i (singular c) h = tt
  column_size k i (going a p swaps) h = go (eq (pivot_of A n a i).magnitude float.zero) (eqb (pivot_of A n a i).row i)
    where
      go : (s t : Bool)
          → Holds k (reduce_run A n i (cond s (singular i) (cond t (going a p swaps) (going (exchange_rows (zero_of A) n i (pivot_of A n a i).row a) (exchange 0 i (pivot_of A n a i).row p) (swaps + 1)))))
      go true t = tt
      go false true = reduce_size i a ∙ h
      go false false = reduce_size i _ ∙ rows_size (zero_of A) n i (pivot_of A n a i).row a ∙ h

  lu_size : (a : List R) → Holds (length a) (lu_of A n a)
  unfolding lu_of
  lu_size a = upto_keep (Holds (length a)) (column A n) 0 n (λ i r l u h. column_size (length a) i r h) (going a (count_up n) 0) refl

-- ---- so its factors have the length wanted

module _ {R : Type 0} (A : Algebra R) (L : Layout R) (W : Lawful L) (n : ℕ) where
  pub lu_full : (a f : List Float) (p : List ℕ) (swaps : ℕ) → (lu_left A L n a f p).answer ≡ value swaps → length (lu_left A L n a f p).factors ≡ n * n * L.width
  lu_full a f p swaps =
      lu_cases A L n a f p (λ l. l.answer ≡ value swaps → length l.factors ≡ n * n * L.width) (λ e. absurd (not_both (sym e))) (λ e. absurd (not_both (sym e)))
      (λ t. finish (decode_length L W a ∙ decode_size L W a (n * n) t.input) (lu_of A n (decode L a)) (lu_size A n (decode L a)))
    where
      finish : length (decode L a) ≡ n * n → (r : Run R) → Holds (length (decode L a)) r → (lu_finish A L n r).answer ≡ value swaps → length (lu_finish A L n r).factors ≡ n * n * L.width
      finish h (singular c) o e = absurd (not_both (sym e))
      finish h (going m q k) o e = encode_length L W m ∙ ap (λ (j : ℕ). j * L.width) (o ∙ h)

-- ---- and nothing refuses them

module _ (w n : ℕ) (order : List ℕ) (swaps : ℕ) (l : LeavesOrder n order swaps) where
  pub solve_accepts : (factors b x : ℕ) → factors ≡ n * n * w → b ≡ n * w → x ≡ n * w → solve_refusal w n factors order b x ≡ 0
  solve_accepts f b x hf hb hx = rw (le-ltb largest.n n l.small, eq-eqb f (n * n * w) hf, eq-eqb (length order) n l.order.size, eq-eqb b (n * w) hb, eq-eqb x (n * w) hx) (accepted_order n order swaps l).0

  pub inverse_accepts : (factors out : ℕ) → factors ≡ n * n * w → out ≡ n * n * w → inverse_refusal w n factors order out ≡ 0
  inverse_accepts f x hf hx = rw (le-ltb largest.n n l.small, eq-eqb f (n * n * w) hf, eq-eqb (length order) n l.order.size, eq-eqb x (n * n * w) hx) (accepted_order n order swaps l).0

  pub determinant_accepts : (factors : ℕ) → factors ≡ n * n * w → determinant_refusal w n factors order swaps ≡ 0
  determinant_accepts f hf = rw (le-ltb largest.n n l.small, eq-eqb f (n * n * w) hf, eq-eqb (length order) n l.order.size, order-is_order n order l.order) (accepted_order n order swaps l).1
