-- A column is what the pivot's search left, then the rows below reduced; before column i, what is left to run gives the whole LU; and LU whole as it is answered. Assumes nothing.
use Prim.Native.Nat.{ℕ, ◌+◌, ◌*◌, ◌≤◌, ◌<◌}
use mathlib.Core.Path.{◌≡◌, refl, ap, sym, ◌∙◌}
use mathlib.Core.List.{List}
use native.Mathlib.Omega.{arith}
use lib.ListN.{length}
use lib.Ieee.{Float}
use Rattle.std.specs.Prelude.{Result, Ok, Err}
use Rattle.algebra.specs.Algebra.{Algebra}
use Rattle.algebra.specs.Flat.{Layout, decode}
use Rattle.algebra.specs.Loop.{upto}
use Rattle.algebra.specs.Outcome.{value}
use Rattle.algebra.proofs.Flat.{tabulate_length}
use Rattle.algebra.proofs.Loop.{upto_turn, upto_end}
use Rattle.algebra.proofs.Laws.{Laws}
use Rattle.matrices.specs.Entries.{lu_answered, lu_finish}
use Rattle.matrices.specs.Lu.{going, reduce, reduce_run, column, count_up, lu_of, bring_pivot_flat}
use Rattle.matrices.specs.Matrix.{Square}
use Rattle.matrices.specs.RunAfter.{run_after, swaps_of}
use Rattle.matrices.specs.declared.NoPivot.{NoPivot}
use Rattle.matrices.proofs.Answers.{finish_done}
use Rattle.matrices.proofs.Lu.{run_stops}
use Rattle.matrices.proofs.RowsOfRecords.{column_by}

module _ {R : Type 0} {A : Algebra R} {L : Layout R} (Q : Laws A L) where
  -- ---- a column: what the pivot's search left, then the rows below

  -- w is the width as the code has it
  module _ (w n i : ℕ) (a a' : List Float) (p p' : List ℕ) (swaps : ℕ) (r : Result ℕ NoPivot) (width : w ≡ L.width) (square : Square L.width n a) (h : i < n)
      (brought : run_after r a' p' ≡ bring_pivot_flat w n i a p swaps) where
    found : column A n i (going (decode L a) p swaps) ≡ reduce_run A n i (run_after r (decode L a') p')
    found = column_by L Q.lawful n a square A Q.real Q.agrees i p swaps h r a' p' (brought ∙ ap (λ (k : ℕ). bring_pivot_flat k n i a p swaps) width)

    -- s is the answer that hands the refusal on
    pub column_stops : (e : NoPivot) (s : Result ℕ NoPivot) → r ≡ Err e → s ≡ Err e → column A n i (going (decode L a) p swaps) ≡ run_after s (decode L a') p'
    column_stops e s t u =
        found ∙ ap (λ (x : Result ℕ NoPivot). reduce_run A n i (run_after x (decode L a') p')) t ∙ sym (ap (λ (x : Result ℕ NoPivot). run_after x (decode L a') p') u)

    pub column_goes : (a'' : List Float) (t : ℕ) → r ≡ Ok t → decode L a'' ≡ reduce A n i (decode L a') → column A n i (going (decode L a) p swaps) ≡ going (decode L a'') p' t
    column_goes a'' t g d = found ∙ ap (λ (s : Result ℕ NoPivot). reduce_run A n i (run_after s (decode L a') p')) g ∙ ap (λ (m : List R). going m p' t) (sym d)

  -- ---- the columns: before column i, what is left to run gives the whole

  pub record Columns (n : ℕ) (a₀ a : List Float) (order₀ order : List ℕ) (swaps i : ℕ) : Type 0 where
    pub within : i ≤ n
    pub few : swaps ≤ i
    pub square : Square L.width n a
    pub size : length order ≡ n
    pub kept : length order ≡ length order₀
    pub rest : upto i n (column A n) (going (decode L a) order swaps) ≡ lu_of A n (decode L a₀)

  pub columns_start : (n : ℕ) (a : List Float) (order : List ℕ) → Square L.width n a → order ≡ count_up n → Columns n a a order order 0 0
  unfolding lu_of
  columns_start n a order s e =
      record { within = omega arith; few = omega arith; square = s; size = ap length e ∙ tabulate_length (λ k. k) n 0; kept = refl; rest = ap (λ (p : List ℕ). upto 0 n (column A n) (going (decode L a) p 0)) e }

  pub columns_turn : (n : ℕ) (a₀ a a' : List Float) (order₀ order order' : List ℕ) (swaps t i : ℕ) (r : Result ℕ NoPivot) → Columns n a₀ a order₀ order swaps i → i < n
      → column A n i (going (decode L a) order swaps) ≡ run_after r (decode L a') order' → r ≡ Ok t → swaps_of r ≤ i + 1 → length a' ≡ length a → length order' ≡ length order
      → Columns n a₀ a' order₀ order' t (i + 1)
  columns_turn n a₀ a a' order₀ order order' swaps t i r c h e g b sa so = record {
    within = omega arith;
    few = omega (arith, ap swaps_of g);
    square = record { small = c.square.small; some = c.square.some; narrow = c.square.narrow; full = sa ∙ c.square.full };
    size = so ∙ c.size;
    kept = so ∙ c.kept;
    rest = upto_turn i n (column A n) (going (decode L a) order swaps) (going (decode L a') order' t) h (sym (e ∙ ap (λ (s : Result ℕ NoPivot). run_after s (decode L a') order') g)) c.rest;
  }

  pub columns_stop : (n : ℕ) (a₀ a a' : List Float) (order₀ order order' : List ℕ) (swaps i : ℕ) (e : NoPivot) (r s : Result ℕ NoPivot) → Columns n a₀ a order₀ order swaps i → i < n
      → column A n i (going (decode L a) order swaps) ≡ run_after r (decode L a') order' → r ≡ Err e → s ≡ Err e → lu_of A n (decode L a₀) ≡ run_after s (decode L a') order'
  columns_stop n a₀ a a' order₀ order order' swaps i e r s k h ran g u =
      let f = λ (x : Result ℕ NoPivot). run_after x (decode L a') order' in
      run_stops A n i e.column (going (decode L a) order swaps) h (ran ∙ ap f g) k.rest ∙ sym (ap f u)

  pub columns_end : (n : ℕ) (a₀ a : List Float) (order₀ order : List ℕ) (swaps i : ℕ) → Columns n a₀ a order₀ order swaps i → n ≤ i → lu_of A n (decode L a₀) ≡ going (decode L a) order swaps
  columns_end n a₀ a order₀ order swaps i c h = sym (upto_end i n (column A n) (going (decode L a) order swaps) h c.rest)

  -- ---- LU whole: a copy, the order counted up, the columns, and both buffers cleared where it is singular

  module _ (n : ℕ) (a f l m : List Float) (o q p : List ℕ) (r : Result ℕ NoPivot) (square : Square L.width n f) (long : length o ≡ n)
      (copied : l ≡ a) (ran : lu_of A n (decode L l) ≡ run_after r (decode L m) p) (copy-size : length l ≡ length f) (run-size : length m ≡ length l) (count-size : length q ≡ length o) (order-size : length p ≡ length q) where
    whole : lu_of A n (decode L a) ≡ run_after r (decode L m) p
    whole = ap (λ (k : List Float). lu_of A n (decode L k)) (sym copied) ∙ ran

    full : length m ≡ n * n * L.width
    full = run-size ∙ copy-size ∙ square.full

    pub factor_done : (swaps : ℕ) → r ≡ Ok swaps → lu_answered (value swaps) 0 m p ≡ lu_finish A L n (lu_of A n (decode L a))
    factor_done swaps g = finish_done A L Q.lawful n (lu_of A n (decode L a)) m p swaps (whole ∙ ap (λ (s : Result ℕ NoPivot). run_after s (decode L m) p) g) full
