-- The four entries by what their contracts say, over any record: no second outcome, the order that LU leaves, demand 3 of any two calls, what previous contents and
-- refusals do, and that 7 and 8 never refuse what LU left. Each record's crate states these of its own contracts and cites the laws here. `r` is an entry's result, `told` and `column` its reading; `κs`, `a`, `x`, `v` are a call's lifetimes, arguments,
-- answer and buffers at exit; `κs'`, `a'`, `x'`, `v'` another's. Assumes nothing.
use Prim.Native.Nat.{ℕ, ◌*◌, ◌<◌}
use mathlib.Core.Path.{◌≡◌, refl, ap, sym, subst, ◌∙◌}
use mathlib.Core.List.{List, [], ◌∷◌}
use lib.Ieee.{binary64}
use lib.ListN.{length, get_or, replicate}
use mir.Syntax.{w64}
use borrow.Fn.Kinds.{ParamKind, ResultKind, In, Out, Dens, res_t, ended_of, p_num}
use borrow.Kind.MutSlice.{p_mut_s}
use borrow.Kind.ShrSlice.{p_shr_s}
use borrow.Table.Referent.{rt_f, f_float, f_int}
use contract.Lifetimes.{Lfts}
use denote.RattleType.{RattleType}
use denote.Triple.Clauses.{Lasts, at_exit}
use Rattle.std.specs.Prelude.{Result, Ok, Err}
use Rattle.refusals.specs.Number as refusal
use Rattle.refusals.specs.declared.Refusal.{Refusal}
use Rattle.refusals.proofs.Numbers.{number_one, number_not_singular}
use Rattle.real.specs.Operations as float
use Rattle.real.proofs.Only.{Only}
use Rattle.algebra.specs.Algebra.{Algebra}
use Rattle.algebra.specs.Flat.{Layout, decode}
use Rattle.algebra.specs.Outcome.{Outcome, value, refused, number_of, map_outcome}
use Rattle.matrices.specs.Answers.{lu_outcome, lu_column, solve_outcome}
use Rattle.matrices.specs.Entries.{LuLeft, lu_answered, lu_left, SolveLeft, solve_answered, solve_left, inverse_left, determinant_left}
use Rattle.matrices.specs.Determinant.{determinant_of}
use Rattle.matrices.specs.PreviousContents.{EqualLu, EqualSolve}
use Rattle.matrices.specs.SameReals.{Alike, SameLu, SameSolve}
use Rattle.matrices.specs.declared.LuRefusal.{LuRefusal}
use Rattle.matrices.specs.declared.LuRefusal.TheVariants as lu
use Rattle.matrices.proofs.AfterLu.{lu_full, solve_accepts, inverse_accepts, determinant_accepts}
use Rattle.matrices.proofs.Answers.{LeavesOrder, lu_leaves_order, solve_done, inverse_done, determinant_done, lu_same, solve_same, inverse_same, determinant_same}
use Rattle.algebra.proofs.Laws.{Laws}
use Rattle.algebra.proofs.Outcomes.{outcome_one}
use Rattle.matrices.proofs.PreviousContents.{lu_equal, lu_kept, lu_zero, solve_equal, solve_kept, inverse_equal, inverse_kept}
use Rattle.orders.proofs.Times.{order_occurs}

-- document 01's reading tells the answers apart
pub lu_one : (x y : Result ℕ LuRefusal) → lu_outcome x ≡ lu_outcome y → lu_column x ≡ lu_column y → x ≡ y
lu_one (Ok s) (Ok t) e f = cc
lu_one (Ok s) (Err (lu.Refused k)) e f = cc
lu_one (Ok s) (Err (lu.Singular c)) e f = cc
lu_one (Err (lu.Refused k)) (Ok t) e f = cc
lu_one (Err (lu.Singular c)) (Ok t) e f = cc
lu_one (Err (lu.Refused k)) (Err (lu.Refused j)) e f = ap (λ (z : Refusal). Err (lu.Refused z)) (number_one k j (ap number_of e))
lu_one (Err (lu.Refused k)) (Err (lu.Singular d)) e f = absurd (number_not_singular k (ap number_of e))
lu_one (Err (lu.Singular c)) (Err (lu.Refused j)) e f = absurd (number_not_singular j (sym (ap number_of e)))
lu_one (Err (lu.Singular c)) (Err (lu.Singular d)) e f = ap (λ (z : ℕ). Err (lu.Singular z)) f

pub solve_one : (x y : Result (Unit {0}) Refusal) → solve_outcome x ≡ solve_outcome y → x ≡ y
solve_one = outcome_one

-- what relates two values relates what is equal to them
carried : {S : Type 0} (T : S → S → Type 0) {x x' y y' : S} → x ≡ y → x' ≡ y' → T y y' → T x x'
carried {S} T {x} {x'} {y} e f t = subst (λ (s : S). T s x') (sym e) (subst (T y) (sym f) t)

-- the parameters: n, lent floats and numbers
abbrev floats : RattleType
floats = rt_f (f_float binary64)

abbrev places : RattleType
places = rt_f (f_int w64)

abbrev pub lu_parameters : List (ParamKind 4)
lu_parameters = p_num w64 ∷ p_shr_s floats 0 tt ∷ p_mut_s floats 1 tt ∷ p_mut_s places 2 tt ∷ []

abbrev pub solve_parameters : List (ParamKind 5)
solve_parameters = p_num w64 ∷ p_shr_s floats 0 tt ∷ p_shr_s places 1 tt ∷ p_shr_s floats 2 tt ∷ p_mut_s floats 3 tt ∷ []

abbrev pub inverse_parameters : List (ParamKind 4)
inverse_parameters = p_num w64 ∷ p_shr_s floats 0 tt ∷ p_shr_s places 1 tt ∷ p_mut_s floats 2 tt ∷ []

abbrev pub determinant_parameters : List (ParamKind 3)
determinant_parameters = p_num w64 ∷ p_shr_s floats 0 tt ∷ p_shr_s places 1 tt ∷ p_num w64 ∷ []

-- ---- lu(n, a, factors, order)

module _ (r : ResultKind 4) (told : (κs : Lfts 4) → (res_t r κs).Denot → Outcome ℕ) (column : (κs : Lfts 4) → (res_t r κs).Denot → ℕ) where
  -- two calls whose sizes, lengths and real parts agree, at w floats a record, whatever the derivative parts and whatever the result's buffers held
  abbrev pub LuNeverSteered : ℕ → Out 4 lu_parameters r → Type 0
  LuNeverSteered w post =
      (κs κs' : Lfts 4) (a : Dens κs lu_parameters) (a' : Dens κs' lu_parameters) (x : (res_t r κs).Denot) (x' : (res_t r κs').Denot)
      (v : Lasts (ended_of 4 lu_parameters r) κs a) (v' : Lasts (ended_of 4 lu_parameters r) κs' a') →
      post κs a x (at_exit (ended_of 4 lu_parameters r) κs a v) → post κs' a' x' (at_exit (ended_of 4 lu_parameters r) κs' a' v') →
      a.0 ≡ a'.0 → Alike w a.1.0.now a'.1.0.now → length a.1.1.0.now ≡ length a'.1.1.0.now → length a.1.1.1.0.now ≡ length a'.1.1.1.0.now →
      SameLu w (lu_answered (told κs x) (column κs x) v.1.1.0 v.1.1.1.0) (lu_answered (told κs' x') (column κs' x') v'.1.1.0 v'.1.1.1.0)

  -- a call that is done leaves a permutation of 0..n-1 in the order's buffer, with a swap count of its parity, at most n
  abbrev pub LuLeavesOrder : Out 4 lu_parameters r → Type 0
  LuLeavesOrder post =
      (κs : Lfts 4) (a : Dens κs lu_parameters) (x : (res_t r κs).Denot) (v : Lasts (ended_of 4 lu_parameters r) κs a) →
      post κs a x (at_exit (ended_of 4 lu_parameters r) κs a v) → (swaps : ℕ) → told κs x ≡ value swaps → LeavesOrder a.0 v.1.1.1.0 swaps

  -- every number below n occurs in it
  abbrev pub LuEveryRow : Out 4 lu_parameters r → Type 0
  LuEveryRow post =
      (κs : Lfts 4) (a : Dens κs lu_parameters) (x : (res_t r κs).Denot) (v : Lasts (ended_of 4 lu_parameters r) κs a) →
      post κs a x (at_exit (ended_of 4 lu_parameters r) κs a v) → (swaps : ℕ) → told κs x ≡ value swaps →
      (row : ℕ) → row < a.0 → (k : ℕ) × ((k < a.0) × (get_or v.1.1.1.0 k 0 ≡ row))

  -- two calls with the same size and input, and result's buffers of the same lengths, whatever those held
  abbrev pub LuPreviousContents : Out 4 lu_parameters r → Type 0
  LuPreviousContents post =
      (κs κs' : Lfts 4) (a : Dens κs lu_parameters) (a' : Dens κs' lu_parameters) (x : (res_t r κs).Denot) (x' : (res_t r κs').Denot)
      (v : Lasts (ended_of 4 lu_parameters r) κs a) (v' : Lasts (ended_of 4 lu_parameters r) κs' a') →
      post κs a x (at_exit (ended_of 4 lu_parameters r) κs a v) → post κs' a' x' (at_exit (ended_of 4 lu_parameters r) κs' a' v') →
      a.0 ≡ a'.0 → a.1.0.now ≡ a'.1.0.now → length a.1.1.0.now ≡ length a'.1.1.0.now → length a.1.1.1.0.now ≡ length a'.1.1.1.0.now →
      EqualLu (lu_answered (told κs x) (column κs x) v.1.1.0 v.1.1.1.0) (lu_answered (told κs' x') (column κs' x') v'.1.1.0 v'.1.1.1.0)

  -- a call that is refused by another number than 6 leaves both buffers as they were, with column 0
  abbrev pub LuNothingWritten : Out 4 lu_parameters r → Type 0
  LuNothingWritten post =
      (κs : Lfts 4) (a : Dens κs lu_parameters) (x : (res_t r κs).Denot) (v : Lasts (ended_of 4 lu_parameters r) κs a) →
      post κs a x (at_exit (ended_of 4 lu_parameters r) κs a v) → (number : ℕ) → (number ≡ 6 → ⊥) → told κs x ≡ refused number →
      (column κs x ≡ 0) × ((v.1.1.0 ≡ a.1.1.0.now) × (v.1.1.1.0 ≡ a.1.1.1.0.now))

  -- a call that is refused 6 leaves the n * n * w factors all +0.0 and the n numbers of the order all 0
  abbrev pub LuZeros : ℕ → Out 4 lu_parameters r → Type 0
  LuZeros w post =
      (κs : Lfts 4) (a : Dens κs lu_parameters) (x : (res_t r κs).Denot) (v : Lasts (ended_of 4 lu_parameters r) κs a) →
      post κs a x (at_exit (ended_of 4 lu_parameters r) κs a v) → told κs x ≡ refused refusal.singular →
      (v.1.1.0 ≡ replicate (a.0 * a.0 * w) float.zero) × (v.1.1.1.0 ≡ replicate a.0 0)

  module _ {R : Type 0} {A : Algebra R} {L : Layout R} (Q : Laws A L) where
    abbrev LuPromise : Out 4 lu_parameters r
    LuPromise κs a x s = lu_answered (told κs x) (column κs x) s.1.1.0.now s.1.1.1.0.now ≡ lu_left A L a.0 a.1.0.now a.1.1.0.now a.1.1.1.0.now

    pub lu_only_by : ((κs : Lfts 4) (x y : (res_t r κs).Denot) → told κs x ≡ told κs y → column κs x ≡ column κs y → x ≡ y) → (pre : In 4 lu_parameters) → Only 4 lu_parameters r pre LuPromise
    lu_only_by one pre κs a x y v w h p q =
        let e = p ∙ sym q in (
          one κs x y (ap (λ (l : LuLeft). l.answer) e) (ap (λ (l : LuLeft). l.column) e),
          λ i. at_exit (ended_of 4 lu_parameters r) κs a (v.0, (v.1.0, (ap (λ (l : LuLeft). l.factors) e i, (ap (λ (l : LuLeft). l.order) e i, tt)))),
        )

    pub lu_never_steered_by : LuNeverSteered L.width LuPromise
    lu_never_steered_by κs κs' a a' x x' v v' p p' n alike f o =
        carried (SameLu L.width) p (p' ∙ ap (λ (k : ℕ). lu_left A L k a'.1.0.now a'.1.1.0.now a'.1.1.1.0.now) (sym n))
        (lu_same A L Q.lawful Q.agrees Q.real a.0 _ _ _ _ _ _ alike.long alike.real f o)

    pub leaves_order_by : LuLeavesOrder LuPromise
    leaves_order_by κs a x v p swaps e =
        subst (λ (o : List ℕ). LeavesOrder a.0 o swaps) (sym (ap (λ (l : LuLeft). l.order) p))
        (lu_leaves_order A L a.0 a.1.0.now a.1.1.0.now a.1.1.1.0.now swaps (sym (ap (λ (l : LuLeft). l.answer) p) ∙ e))

    pub every_row_by : LuEveryRow LuPromise
    every_row_by κs a x v p swaps e row h = order_occurs a.0 v.1.1.1.0 (leaves_order_by κs a x v p swaps e).order row h

    pub lu_previous_contents_by : LuPreviousContents LuPromise
    lu_previous_contents_by κs κs' a a' x x' v v' p p' n same f o =
        carried EqualLu p (p' ∙ (λ i. lu_left A L (sym n i) (sym same i) a'.1.1.0.now a'.1.1.1.0.now)) (lu_equal A L a.0 a.1.0.now _ _ _ _ f o)

    pub lu_nothing_written_by : LuNothingWritten LuPromise
    lu_nothing_written_by κs a x v p number six e =
        let k = lu_kept A L a.0 a.1.0.now a.1.1.0.now a.1.1.1.0.now number six (sym (ap (λ (l : LuLeft). l.answer) p) ∙ e) in
        (ap (λ (l : LuLeft). l.column) p ∙ k.0, (ap (λ (l : LuLeft). l.factors) p ∙ k.1.0, ap (λ (l : LuLeft). l.order) p ∙ k.1.1))

    pub lu_zeros_by : LuZeros L.width LuPromise
    lu_zeros_by κs a x v p e =
        let z = lu_zero A L a.0 a.1.0.now a.1.1.0.now a.1.1.1.0.now (sym (ap (λ (l : LuLeft). l.answer) p) ∙ e) in
        (ap (λ (l : LuLeft). l.factors) p ∙ z.0, ap (λ (l : LuLeft). l.order) p ∙ z.1)

    -- the factors that a call leaves when it is done
    full_by : (κs : Lfts 4) (a : Dens κs lu_parameters) (x : (res_t r κs).Denot) (v : Lasts (ended_of 4 lu_parameters r) κs a) →
        LuPromise κs a x (at_exit (ended_of 4 lu_parameters r) κs a v) → (swaps : ℕ) → told κs x ≡ value swaps → length v.1.1.0 ≡ a.0 * a.0 * L.width
    full_by κs a x v p swaps e =
        ap (λ (l : LuLeft). length l.factors) p
        ∙ lu_full A L Q.lawful a.0 a.1.0.now a.1.1.0.now a.1.1.1.0.now swaps (sym (ap (λ (l : LuLeft). l.answer) p) ∙ e)

-- ---- solve(n, factors, order, b, x)

module _ (r : ResultKind 5) (told : (κs : Lfts 5) → (res_t r κs).Denot → Outcome (Unit {0})) where
  abbrev pub SolveNeverSteered : ℕ → Out 5 solve_parameters r → Type 0
  SolveNeverSteered w post =
      (κs κs' : Lfts 5) (a : Dens κs solve_parameters) (a' : Dens κs' solve_parameters) (x : (res_t r κs).Denot) (x' : (res_t r κs').Denot)
      (v : Lasts (ended_of 5 solve_parameters r) κs a) (v' : Lasts (ended_of 5 solve_parameters r) κs' a') →
      post κs a x (at_exit (ended_of 5 solve_parameters r) κs a v) → post κs' a' x' (at_exit (ended_of 5 solve_parameters r) κs' a' v') →
      a.0 ≡ a'.0 → Alike w a.1.0.now a'.1.0.now → a.1.1.0.now ≡ a'.1.1.0.now → Alike w a.1.1.1.0.now a'.1.1.1.0.now →
      length a.1.1.1.1.0.now ≡ length a'.1.1.1.1.0.now →
      SameSolve w (solve_answered (told κs x) v.1.1.1.1.0) (solve_answered (told κs' x') v'.1.1.1.1.0)

  abbrev pub SolvePreviousContents : Out 5 solve_parameters r → Type 0
  SolvePreviousContents post =
      (κs κs' : Lfts 5) (a : Dens κs solve_parameters) (a' : Dens κs' solve_parameters) (x : (res_t r κs).Denot) (x' : (res_t r κs').Denot)
      (v : Lasts (ended_of 5 solve_parameters r) κs a) (v' : Lasts (ended_of 5 solve_parameters r) κs' a') →
      post κs a x (at_exit (ended_of 5 solve_parameters r) κs a v) → post κs' a' x' (at_exit (ended_of 5 solve_parameters r) κs' a' v') →
      a.0 ≡ a'.0 → a.1.0.now ≡ a'.1.0.now → a.1.1.0.now ≡ a'.1.1.0.now → a.1.1.1.0.now ≡ a'.1.1.1.0.now →
      length a.1.1.1.1.0.now ≡ length a'.1.1.1.1.0.now →
      EqualSolve (solve_answered (told κs x) v.1.1.1.1.0) (solve_answered (told κs' x') v'.1.1.1.1.0)

  -- a call that is refused leaves the buffer as it was
  abbrev pub SolveNothingWritten : Out 5 solve_parameters r → Type 0
  SolveNothingWritten post =
      (κs : Lfts 5) (a : Dens κs solve_parameters) (x : (res_t r κs).Denot) (v : Lasts (ended_of 5 solve_parameters r) κs a) →
      post κs a x (at_exit (ended_of 5 solve_parameters r) κs a v) → (number : ℕ) → told κs x ≡ refused number → v.1.1.1.1.0 ≡ a.1.1.1.1.0.now

  module _ {R : Type 0} {A : Algebra R} {L : Layout R} (Q : Laws A L) where
    abbrev SolvePromise : Out 5 solve_parameters r
    SolvePromise κs a x s = solve_answered (told κs x) s.1.1.1.1.0.now ≡ solve_left A L a.0 a.1.0.now a.1.1.0.now a.1.1.1.0.now a.1.1.1.1.0.now

    pub solve_only_by : ((κs : Lfts 5) (x y : (res_t r κs).Denot) → told κs x ≡ told κs y → x ≡ y) → (pre : In 5 solve_parameters) → Only 5 solve_parameters r pre SolvePromise
    solve_only_by one pre κs a x y v w h p q =
        let e = p ∙ sym q in (
          one κs x y (ap (λ (l : SolveLeft). l.answer) e),
          λ i. at_exit (ended_of 5 solve_parameters r) κs a (v.0, (v.1.0, (v.1.1.0, (v.1.1.1.0, (ap (λ (l : SolveLeft). l.result) e i, tt))))),
        )

    pub solve_never_steered_by : SolveNeverSteered L.width SolvePromise
    solve_never_steered_by κs κs' a a' x x' v v' p p' n alike o b f =
        carried (SameSolve L.width) p (p' ∙ (λ i. solve_left A L (sym n i) a'.1.0.now (sym o i) a'.1.1.1.0.now a'.1.1.1.1.0.now))
        (solve_same A L Q.lawful Q.agrees Q.real a.0 _ _ _ _ _ _ _ alike.long alike.real b.long b.real f)

    pub solve_previous_contents_by : SolvePreviousContents SolvePromise
    solve_previous_contents_by κs κs' a a' x x' v v' p p' n f o b h =
        carried EqualSolve p (p' ∙ (λ i. solve_left A L (sym n i) (sym f i) (sym o i) (sym b i) a'.1.1.1.1.0.now)) (solve_equal A L a.0 a.1.0.now a.1.1.0.now a.1.1.1.0.now _ _ h)

    pub solve_nothing_written_by : SolveNothingWritten SolvePromise
    solve_nothing_written_by κs a x v p number e =
        ap (λ (l : SolveLeft). l.result) p
        ∙ solve_kept A L a.0 a.1.0.now a.1.1.0.now a.1.1.1.0.now a.1.1.1.1.0.now number (sym (ap (λ (l : SolveLeft). l.answer) p) ∙ e)

-- ---- inverse(n, factors, order, out)

module _ (r : ResultKind 4) (told : (κs : Lfts 4) → (res_t r κs).Denot → Outcome (Unit {0})) where
  abbrev pub InverseNeverSteered : ℕ → Out 4 inverse_parameters r → Type 0
  InverseNeverSteered w post =
      (κs κs' : Lfts 4) (a : Dens κs inverse_parameters) (a' : Dens κs' inverse_parameters) (x : (res_t r κs).Denot) (x' : (res_t r κs').Denot)
      (v : Lasts (ended_of 4 inverse_parameters r) κs a) (v' : Lasts (ended_of 4 inverse_parameters r) κs' a') →
      post κs a x (at_exit (ended_of 4 inverse_parameters r) κs a v) → post κs' a' x' (at_exit (ended_of 4 inverse_parameters r) κs' a' v') →
      a.0 ≡ a'.0 → Alike w a.1.0.now a'.1.0.now → a.1.1.0.now ≡ a'.1.1.0.now → length a.1.1.1.0.now ≡ length a'.1.1.1.0.now →
      SameSolve w (solve_answered (told κs x) v.1.1.1.0) (solve_answered (told κs' x') v'.1.1.1.0)

  abbrev pub InversePreviousContents : Out 4 inverse_parameters r → Type 0
  InversePreviousContents post =
      (κs κs' : Lfts 4) (a : Dens κs inverse_parameters) (a' : Dens κs' inverse_parameters) (x : (res_t r κs).Denot) (x' : (res_t r κs').Denot)
      (v : Lasts (ended_of 4 inverse_parameters r) κs a) (v' : Lasts (ended_of 4 inverse_parameters r) κs' a') →
      post κs a x (at_exit (ended_of 4 inverse_parameters r) κs a v) → post κs' a' x' (at_exit (ended_of 4 inverse_parameters r) κs' a' v') →
      a.0 ≡ a'.0 → a.1.0.now ≡ a'.1.0.now → a.1.1.0.now ≡ a'.1.1.0.now → length a.1.1.1.0.now ≡ length a'.1.1.1.0.now →
      EqualSolve (solve_answered (told κs x) v.1.1.1.0) (solve_answered (told κs' x') v'.1.1.1.0)

  abbrev pub InverseNothingWritten : Out 4 inverse_parameters r → Type 0
  InverseNothingWritten post =
      (κs : Lfts 4) (a : Dens κs inverse_parameters) (x : (res_t r κs).Denot) (v : Lasts (ended_of 4 inverse_parameters r) κs a) →
      post κs a x (at_exit (ended_of 4 inverse_parameters r) κs a v) → (number : ℕ) → told κs x ≡ refused number → v.1.1.1.0 ≡ a.1.1.1.0.now

  module _ {R : Type 0} {A : Algebra R} {L : Layout R} (Q : Laws A L) where
    abbrev InversePromise : Out 4 inverse_parameters r
    InversePromise κs a x s = solve_answered (told κs x) s.1.1.1.0.now ≡ inverse_left A L a.0 a.1.0.now a.1.1.0.now a.1.1.1.0.now

    pub inverse_only_by : ((κs : Lfts 4) (x y : (res_t r κs).Denot) → told κs x ≡ told κs y → x ≡ y) → (pre : In 4 inverse_parameters) → Only 4 inverse_parameters r pre InversePromise
    inverse_only_by one pre κs a x y v w h p q =
        let e = p ∙ sym q in (
          one κs x y (ap (λ (l : SolveLeft). l.answer) e),
          λ i. at_exit (ended_of 4 inverse_parameters r) κs a (v.0, (v.1.0, (v.1.1.0, (ap (λ (l : SolveLeft). l.result) e i, tt)))),
        )

    pub inverse_never_steered_by : InverseNeverSteered L.width InversePromise
    inverse_never_steered_by κs κs' a a' x x' v v' p p' n alike o f =
        carried (SameSolve L.width) p (p' ∙ (λ i. inverse_left A L (sym n i) a'.1.0.now (sym o i) a'.1.1.1.0.now))
        (inverse_same A L Q.lawful Q.agrees Q.real a.0 _ _ _ _ _ alike.long alike.real f)

    pub inverse_previous_contents_by : InversePreviousContents InversePromise
    inverse_previous_contents_by κs κs' a a' x x' v v' p p' n f o h =
        carried EqualSolve p (p' ∙ (λ i. inverse_left A L (sym n i) (sym f i) (sym o i) a'.1.1.1.0.now)) (inverse_equal A L a.0 a.1.0.now a.1.1.0.now _ _ h)

    pub inverse_nothing_written_by : InverseNothingWritten InversePromise
    inverse_nothing_written_by κs a x v p number e =
        ap (λ (l : SolveLeft). l.result) p
        ∙ inverse_kept A L a.0 a.1.0.now a.1.1.0.now a.1.1.1.0.now number (sym (ap (λ (l : SolveLeft). l.answer) p) ∙ e)

-- ---- determinant(n, factors, order, swaps)

module _ {R : Type 0} (A : Algebra R) (r : ResultKind 3) (told : (κs : Lfts 3) → (res_t r κs).Denot → Outcome R) where
  abbrev pub DeterminantNeverSteered : ℕ → Out 3 determinant_parameters r → Type 0
  DeterminantNeverSteered w post =
      (κs κs' : Lfts 3) (a : Dens κs determinant_parameters) (a' : Dens κs' determinant_parameters) (x : (res_t r κs).Denot) (x' : (res_t r κs').Denot)
      (v : Lasts (ended_of 3 determinant_parameters r) κs a) (v' : Lasts (ended_of 3 determinant_parameters r) κs' a') →
      post κs a x (at_exit (ended_of 3 determinant_parameters r) κs a v) → post κs' a' x' (at_exit (ended_of 3 determinant_parameters r) κs' a' v') →
      a.0 ≡ a'.0 → Alike w a.1.0.now a'.1.0.now → a.1.1.0.now ≡ a'.1.1.0.now → a.1.1.1.0 ≡ a'.1.1.1.0 →
      map_outcome A.re (told κs x) ≡ map_outcome A.re (told κs' x')

  -- no buffer is written: two calls with the same inputs answer the same
  abbrev pub DeterminantSameInputs : Out 3 determinant_parameters r → Type 0
  DeterminantSameInputs post =
      (κs κs' : Lfts 3) (a : Dens κs determinant_parameters) (a' : Dens κs' determinant_parameters) (x : (res_t r κs).Denot) (x' : (res_t r κs').Denot)
      (v : Lasts (ended_of 3 determinant_parameters r) κs a) (v' : Lasts (ended_of 3 determinant_parameters r) κs' a') →
      post κs a x (at_exit (ended_of 3 determinant_parameters r) κs a v) → post κs' a' x' (at_exit (ended_of 3 determinant_parameters r) κs' a' v') →
      a.0 ≡ a'.0 → a.1.0.now ≡ a'.1.0.now → a.1.1.0.now ≡ a'.1.1.0.now → a.1.1.1.0 ≡ a'.1.1.1.0 → told κs x ≡ told κs' x'

module _ {R : Type 0} {A : Algebra R} {L : Layout R} (Q : Laws A L) (r : ResultKind 3) (told : (κs : Lfts 3) → (res_t r κs).Denot → Outcome R) where
  abbrev DeterminantPromise : Out 3 determinant_parameters r
  DeterminantPromise κs a x s = told κs x ≡ determinant_left A L a.0 a.1.0.now a.1.1.0.now a.1.1.1.0

  pub determinant_only_by : ((κs : Lfts 3) (x y : (res_t r κs).Denot) → told κs x ≡ told κs y → x ≡ y) → (pre : In 3 determinant_parameters) → Only 3 determinant_parameters r pre DeterminantPromise
  determinant_only_by one pre κs a x y v w h p q = (one κs x y (p ∙ sym q), refl)

  pub determinant_never_steered_by : DeterminantNeverSteered A r told L.width DeterminantPromise
  determinant_never_steered_by κs κs' a a' x x' v v' p p' n alike o s =
      ap (map_outcome A.re) p
      ∙ determinant_same A L Q.lawful Q.agrees Q.real a.0 _ _ _ _ alike.long alike.real
      ∙ sym (ap (map_outcome A.re) (p' ∙ (λ i. determinant_left A L (sym n i) a'.1.0.now (sym o i) (sym s i))))

  pub determinant_same_inputs_by : DeterminantSameInputs A r told DeterminantPromise
  determinant_same_inputs_by κs κs' a a' x x' v v' p p' n f o s = p ∙ (λ i. determinant_left A L (n i) (f i) (o i) (s i)) ∙ sym p'

-- ---- 7 and 8 never refuse what LU left: a call with the factors and the order of a call of LU that is done, and its swap count, is not refused

module _ (r : ResultKind 4) (told : (κs : Lfts 4) → (res_t r κs).Denot → Outcome ℕ) (column : (κs : Lfts 4) → (res_t r κs).Denot → ℕ) where
  -- κs, a, x, v: a call of LU that is done with so many swaps
  abbrev pub LuDone : Out 4 lu_parameters r → (κs : Lfts 4) (a : Dens κs lu_parameters) → Lasts (ended_of 4 lu_parameters r) κs a → (res_t r κs).Denot → ℕ → Type 0
  LuDone post κs a v x swaps = post κs a x (at_exit (ended_of 4 lu_parameters r) κs a v) × (told κs x ≡ value swaps)

  module _ (r' : ResultKind 5) (told' : (κs : Lfts 5) → (res_t r' κs).Denot → Outcome (Unit {0})) where
    -- solve with right side and x of the lengths wanted is done
    abbrev pub SolveAfterLu : ℕ → Out 4 lu_parameters r → Out 5 solve_parameters r' → Type 0
    SolveAfterLu w post post' =
        (κs : Lfts 4) (a : Dens κs lu_parameters) (x : (res_t r κs).Denot) (v : Lasts (ended_of 4 lu_parameters r) κs a) (swaps : ℕ) → LuDone post κs a v x swaps →
        (κs' : Lfts 5) (a' : Dens κs' solve_parameters) (x' : (res_t r' κs').Denot) (v' : Lasts (ended_of 5 solve_parameters r') κs' a') →
        post' κs' a' x' (at_exit (ended_of 5 solve_parameters r') κs' a' v') →
        a'.0 ≡ a.0 → a'.1.0.now ≡ v.1.1.0 → a'.1.1.0.now ≡ v.1.1.1.0 → length a'.1.1.1.0.now ≡ a.0 * w → length a'.1.1.1.1.0.now ≡ a.0 * w →
        told' κs' x' ≡ value tt

    module _ {R : Type 0} {A : Algebra R} {L : Layout R} (Q : Laws A L) where
      pub solve_after_lu_by : SolveAfterLu L.width (LuPromise r told column Q) (SolvePromise r' told' Q)
      solve_after_lu_by κs a x v swaps done κs' a' x' v' p' n f o b h =
          let l = leaves_order_by r told column Q κs a x v done.0 swaps done.1 in
          let z = solve_accepts L.width a.0 v.1.1.1.0 swaps l (length v.1.1.0) _ _ (full_by r told column Q κs a x v done.0 swaps done.1) b h in
          ap (λ (s : SolveLeft). s.answer) (p' ∙ (λ i. solve_left A L (n i) (f i) (o i) a'.1.1.1.0.now a'.1.1.1.1.0.now) ∙ sym (solve_done A L a.0 v.1.1.0 v.1.1.1.0 _ _ z))

  module _ (r' : ResultKind 4) (told' : (κs : Lfts 4) → (res_t r' κs).Denot → Outcome (Unit {0})) where
    -- inverse with an out of the length wanted is done
    abbrev pub InverseAfterLu : ℕ → Out 4 lu_parameters r → Out 4 inverse_parameters r' → Type 0
    InverseAfterLu w post post' =
        (κs : Lfts 4) (a : Dens κs lu_parameters) (x : (res_t r κs).Denot) (v : Lasts (ended_of 4 lu_parameters r) κs a) (swaps : ℕ) → LuDone post κs a v x swaps →
        (κs' : Lfts 4) (a' : Dens κs' inverse_parameters) (x' : (res_t r' κs').Denot) (v' : Lasts (ended_of 4 inverse_parameters r') κs' a') →
        post' κs' a' x' (at_exit (ended_of 4 inverse_parameters r') κs' a' v') →
        a'.0 ≡ a.0 → a'.1.0.now ≡ v.1.1.0 → a'.1.1.0.now ≡ v.1.1.1.0 → length a'.1.1.1.0.now ≡ a.0 * a.0 * w →
        told' κs' x' ≡ value tt

    module _ {R : Type 0} {A : Algebra R} {L : Layout R} (Q : Laws A L) where
      pub inverse_after_lu_by : InverseAfterLu L.width (LuPromise r told column Q) (InversePromise r' told' Q)
      inverse_after_lu_by κs a x v swaps done κs' a' x' v' p' n f o h =
          let l = leaves_order_by r told column Q κs a x v done.0 swaps done.1 in
          let z = inverse_accepts L.width a.0 v.1.1.1.0 swaps l (length v.1.1.0) _ (full_by r told column Q κs a x v done.0 swaps done.1) h in
          ap (λ (s : SolveLeft). s.answer) (p' ∙ (λ i. inverse_left A L (n i) (f i) (o i) a'.1.1.1.0.now) ∙ sym (inverse_done A L a.0 v.1.1.0 v.1.1.1.0 _ z))

  module _ {R : Type 0} (r' : ResultKind 3) (told' : (κs : Lfts 3) → (res_t r' κs).Denot → Outcome R) where
    -- determinant with the swap count gives a value
    abbrev pub DeterminantAfterLu : Out 4 lu_parameters r → Out 3 determinant_parameters r' → Type 0
    DeterminantAfterLu post post' =
        (κs : Lfts 4) (a : Dens κs lu_parameters) (x : (res_t r κs).Denot) (v : Lasts (ended_of 4 lu_parameters r) κs a) (swaps : ℕ) → LuDone post κs a v x swaps →
        (κs' : Lfts 3) (a' : Dens κs' determinant_parameters) (x' : (res_t r' κs').Denot) (v' : Lasts (ended_of 3 determinant_parameters r') κs' a') →
        post' κs' a' x' (at_exit (ended_of 3 determinant_parameters r') κs' a' v') →
        a'.0 ≡ a.0 → a'.1.0.now ≡ v.1.1.0 → a'.1.1.0.now ≡ v.1.1.1.0 → a'.1.1.1.0 ≡ swaps →
        (d : R) × (told' κs' x' ≡ value d)

    module _ {A : Algebra R} {L : Layout R} (Q : Laws A L) where
      pub determinant_after_lu_by : DeterminantAfterLu (LuPromise r told column Q) (DeterminantPromise Q r' told')
      determinant_after_lu_by κs a x v swaps done κs' a' x' v' p' n f o s =
          let l = leaves_order_by r told column Q κs a x v done.0 swaps done.1 in
          let z = determinant_accepts L.width a.0 v.1.1.1.0 swaps l (length v.1.1.0) (full_by r told column Q κs a x v done.0 swaps done.1) in
          (determinant_of A a.0 (decode L v.1.1.0) swaps, p' ∙ (λ i. determinant_left A L (n i) (f i) (o i) (s i)) ∙ sym (determinant_done A L a.0 v.1.1.0 v.1.1.1.0 swaps z))
