-- The entries: what tests that refuse nothing allow the work to assume, and that what is answered, then or on a refusal, is what the entry promises. Assumes nothing.
use Prim.Native.Nat.{ℕ, ◌*◌, ◌≤◌}
use mathlib.Core.Path.{◌≡◌, ap, ◌∙◌}
use mathlib.Core.Bool.{Bool, true, false, cond, ◌&&◌}
use mathlib.Core.List.{List}
use lib.Dec.{ltb, eqb}
use lib.ListN.{length}
use lib.Ieee.{Float}
use Rattle.std.specs.Prelude.{Result, Ok, Err}
use Rattle.refusals.specs.Largest as largest
use Rattle.refusals.specs.Refused.{number, answer_number}
use Rattle.refusals.specs.declared.Refusal.{Refusal}
use Rattle.algebra.specs.Algebra.{Algebra}
use Rattle.algebra.specs.Flat.{Layout, decode}
use Rattle.algebra.specs.Outcome.{value, outcome}
use Rattle.algebra.proofs.Cells.{parts_of}
use Rattle.algebra.proofs.Laws.{Laws}
use Rattle.matrices.specs.Answers.{lu_outcome, lu_column}
use Rattle.matrices.specs.Entries.{lu_refusal, solve_refusal, inverse_refusal, swaps_refusal, LuLeft, lu_answered, lu_finish, lu_left, solve_answered, solve_left, inverse_left, determinant_left}
use Rattle.matrices.specs.Inverse.{inverse_of}
use Rattle.matrices.specs.Lu.{lu_of}
use Rattle.matrices.specs.Matrix.{Square}
use Rattle.orders.specs.Order.{Order, is_order}
use Rattle.matrices.specs.Solve.{solve_of}
use Rattle.matrices.specs.Walk.{lengths_refusal}
use Rattle.matrices.specs.declared.LuRefusal.{LuRefusal}
use Rattle.matrices.specs.declared.LuRefusal.TheVariants.{Refused}
use Rattle.matrices.proofs.Answers.{done_zero, refused_number, refused_not_done, lu_fits, solve_fits, inverse_fits, determinant_fits, lu_done, lu_refused, solve_done, solve_refused, inverse_done, inverse_refused, determinant_refused}

module _ {R : Type 0} {A : Algebra R} {L : Layout R} (Q : Laws A L) where
  square_of : (n : ℕ) (l : List Float) → n ≤ largest.n → length l ≡ n * n * L.width → Square L.width n l
  square_of n l h e = record { small = h; some = Q.lawful.positive; narrow = Q.narrow; full = e }

  -- w is the width as the code has it, t what the tests of an entry answered; s is the answer that hands a refusal on
  module _ (w n : ℕ) (t : Result (Unit {0}) Refusal) (width : w ≡ L.width) where
    module _ (a f : List Float) (o : List ℕ) (told : answer_number t ≡ lu_refusal w n (length a) (length f) (length o)) where
      lu_asked : answer_number t ≡ lu_refusal L.width n (length a) (length f) (length o)
      lu_asked = told ∙ ap (λ (k : ℕ). lu_refusal k n (length a) (length f) (length o)) width

      pub lu_allowed : (u : Unit {0}) → t ≡ Ok u → Square L.width n a × (Square L.width n f × (length o ≡ n))
      lu_allowed u e =
          let fits = lu_fits L.width n (length a) (length f) (length o) (done_zero t _ lu_asked u e) in
          (square_of n a fits.small fits.input, (square_of n f fits.small fits.factors, fits.order))

      pub lu_answers : (u : Unit {0}) (x : LuLeft) → t ≡ Ok u → x ≡ lu_finish A L n (lu_of A n (decode L a)) → x ≡ lu_left A L n a f o
      lu_answers u x e p = p ∙ lu_done A L n a f o (done_zero t _ lu_asked u e)

      pub lu_unfit : (e : Refusal) (s : Result ℕ LuRefusal) → t ≡ Err e → s ≡ Err (Refused e) → lu_answered (lu_outcome s) (lu_column s) f o ≡ lu_left A L n a f o
      lu_unfit e s p q =
          ap (λ (x : Result ℕ LuRefusal). lu_answered (lu_outcome x) (lu_column x) f o) q
          ∙ lu_refused A L n a f o (number e) (refused_number t _ lu_asked e p) (refused_not_done e)

    module _ (f : List Float) (o : List ℕ) (b x : List Float) (told : answer_number t ≡ solve_refusal w n (length f) o (length b) (length x)) where
      solve_asked : answer_number t ≡ solve_refusal L.width n (length f) o (length b) (length x)
      solve_asked = told ∙ ap (λ (k : ℕ). solve_refusal k n (length f) o (length b) (length x)) width

      pub solve_allowed : (u : Unit {0}) → t ≡ Ok u → Square L.width n f × (Order n o × ((length b ≡ n * L.width) × (length x ≡ n * L.width)))
      solve_allowed u e =
          let fits = solve_fits L.width n (length f) o (length b) (length x) (done_zero t _ solve_asked u e) in
          (square_of n f fits.0.small fits.0.factors, (fits.0.order, fits.1))

      pub solve_answers : (u : Unit {0}) (x' : List Float) → t ≡ Ok u → length x' ≡ length x → decode L x' ≡ solve_of A n (decode L f) o (decode L b) → solve_answered (value tt) x' ≡ solve_left A L n f o b x
      solve_answers u x' e h p =
          ap (solve_answered (value tt)) (parts_of Q x' n _ (h ∙ (solve_allowed u e).1.1.1) p) ∙ solve_done A L n f o b x (done_zero t _ solve_asked u e)

      pub solve_unfit : (e : Refusal) (s : Result (Unit {0}) Refusal) → t ≡ Err e → s ≡ Err e → solve_answered (outcome s) x ≡ solve_left A L n f o b x
      solve_unfit e s p q =
          ap (λ (y : Result (Unit {0}) Refusal). solve_answered (outcome y) x) q
          ∙ solve_refused A L n f o b x (number e) (refused_number t _ solve_asked e p) (refused_not_done e)

    module _ (f : List Float) (o : List ℕ) (x : List Float) (told : answer_number t ≡ inverse_refusal w n (length f) o (length x)) where
      inverse_asked : answer_number t ≡ inverse_refusal L.width n (length f) o (length x)
      inverse_asked = told ∙ ap (λ (k : ℕ). inverse_refusal k n (length f) o (length x)) width

      pub inverse_allowed : (u : Unit {0}) → t ≡ Ok u → Square L.width n f × (Order n o × Square L.width n x)
      inverse_allowed u e =
          let fits = inverse_fits L.width n (length f) o (length x) (done_zero t _ inverse_asked u e) in
          (square_of n f fits.0.small fits.0.factors, (fits.0.order, square_of n x fits.0.small fits.1))

      pub inverse_answers : (u : Unit {0}) (x' : List Float) → t ≡ Ok u → length x' ≡ length x → decode L x' ≡ inverse_of A n (decode L f) o → solve_answered (value tt) x' ≡ inverse_left A L n f o x
      inverse_answers u x' e h p =
          ap (solve_answered (value tt)) (parts_of Q x' (n * n) _ (h ∙ (inverse_allowed u e).1.1.full) p) ∙ inverse_done A L n f o x (done_zero t _ inverse_asked u e)

      pub inverse_unfit : (e : Refusal) (s : Result (Unit {0}) Refusal) → t ≡ Err e → s ≡ Err e → solve_answered (outcome s) x ≡ inverse_left A L n f o x
      inverse_unfit e s p q =
          ap (λ (y : Result (Unit {0}) Refusal). solve_answered (outcome y) x) q
          ∙ inverse_refused A L n f o x (number e) (refused_number t _ inverse_asked e p) (refused_not_done e)

    module _ (f : List Float) (o : List ℕ) (told : answer_number t ≡ lengths_refusal w n (length f) (length o)) where
      determinant_asked : answer_number t ≡ lengths_refusal L.width n (length f) (length o)
      determinant_asked = told ∙ ap (λ (k : ℕ). lengths_refusal k n (length f) (length o)) width

      pub determinant_allowed : (u : Unit {0}) → t ≡ Ok u → Square L.width n f × (length o ≡ n)
      determinant_allowed u e =
          let fits = determinant_fits L.width n (length f) (length o) (done_zero t _ determinant_asked u e) in
          (square_of n f fits.0 fits.1.0, fits.1.1)

      pub determinant_unfit : (swaps : ℕ) (e : Refusal) (s : Result R Refusal) → t ≡ Err e → s ≡ Err e → outcome s ≡ determinant_left A L n f o swaps
      determinant_unfit swaps e s p q =
          ap (λ (y : Result R Refusal). outcome y) q
          ∙ determinant_refused A L n f o swaps (number e) (go (ltb largest.n n) (eqb (length f) (n * n * L.width) && eqb (length o) n) (refused_number t _ determinant_asked e p)) (refused_not_done e)
        where
          go : (l b : Bool) → number e ≡ cond l 1 (cond b 0 2) → number e ≡ cond l 1 (cond b (cond (is_order n o) (swaps_refusal o swaps) 7) 2)
          go true b h = h
          go false true h = absurd (refused_not_done e h)
          go false false h = h
