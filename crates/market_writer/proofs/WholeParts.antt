-- Which floats can be written: the test of one float way by way, and a matrix record by record. Assumes nothing.
use Prim.Native.Nat.{ℕ, zero, suc, ◌+◌, ◌*◌, ◌%◌, ◌<◌, ◌≤◌}
use mathlib.Core.Path.{◌≡◌, refl, sym, ap, ◌∙◌}
use mathlib.Core.Bool.{Bool, true, false, cond, ◌&&◌}
use mathlib.Core.List.{List, [], ◌∷◌, ◌++◌}
use native.Mathlib.Nat.{mul-add-mod_self_right, mod-eq_of_lt}
use native.Mathlib.Omega.{arith}
use lib.Dec.{leb, eqb}
use lib.IntN.{pos}
use lib.ListN.{length, get_or, drop, length-append, get_or-append}
use lib.Seq.{get_or-append-add}
use lib.Ieee.{Float, nan, binary64, eq, of_int}
use borrow.Author.Tests.{le-leb, lt-leb, ne_eqb}
use Rattle.std.specs.Prelude.{Some, None}
use Rattle.std.specs.Option.{is_some}
use Rattle.std.specs.List.{list_all}
use Rattle.refusals.specs.Largest as largest
use Rattle.real.specs.Operations as float
use Rattle.algebra.proofs.Inside.{get_or-inside}
use Rattle.texts.specs.Digits.{every}
use Rattle.market.specs.Text.{magnitude, whole_part, in_range, is_whole_magnitude, is_whole, fits_at, is_writable}
use Rattle.market_writer.specs.Told.{whole_of}

-- ---- one float
module _ (x m : Float) (at : m ≡ magnitude x) where
  whole_by : (t : Bool) → is_whole_magnitude m ≡ t → cond t (Some (whole_part m)) None ≡ whole_of x
  unfolding whole_of
  whole_by t e = ap (λ (b : Bool). cond b (Some (whole_part m)) None) (sym e) ∙ ap (λ (y : Float). cond (is_whole_magnitude y) (Some (whole_part y)) None) at

  module _ (b : Bool) (told : b ≡ in_range m) where
    pub whole_out : b ≡ false → None ≡ whole_of x
    unfolding is_whole_magnitude
    whole_out e = whole_by false (ap (λ (t : Bool). t && (leb (whole_part m) largest.whole && eq (of_int binary64 (pos (whole_part m))) m)) (sym told ∙ e))

    module _ (inside : b ≡ true) (v : ℕ) (cut : v ≡ whole_part m) where
      by_rest : (t : Bool) → (leb v largest.whole && eq (of_int binary64 (pos v)) m) ≡ t → cond t (Some v) None ≡ whole_of x
      unfolding is_whole_magnitude
      by_rest t g =
          ap (λ (k : ℕ). cond t (Some k) None) cut
          ∙ whole_by t
          (ap (λ (t : Bool). t && (leb (whole_part m) largest.whole && eq (of_int binary64 (pos (whole_part m))) m)) (sym told ∙ inside)
          ∙ ap (λ (k : ℕ). leb k largest.whole && eq (of_int binary64 (pos k)) m) (sym cut)
          ∙ g)

      pub whole_large : largest.whole < v → None ≡ whole_of x
      whole_large h = by_rest false (ap (λ (t : Bool). t && eq (of_int binary64 (pos v)) m) (lt-leb v largest.whole h))

      module _ (h : v ≤ largest.whole) where
        pub whole_broken : eq (of_int binary64 (pos v)) m ≡ false → None ≡ whole_of x
        whole_broken g = by_rest false (ap (λ (t : Bool). t && eq (of_int binary64 (pos v)) m) (le-leb v largest.whole h) ∙ g)

        pub whole_is : eq (of_int binary64 (pos v)) m ≡ true → Some v ≡ whole_of x
        whole_is g = by_rest true (ap (λ (t : Bool). t && eq (of_int binary64 (pos v)) m) (le-leb v largest.whole h) ∙ g)

-- ---- a test of every number below a bound, from the front
every_append : (f : ℕ → Bool) (w m : ℕ) → every f (w + m) ≡ (every f w && every (λ j. f (w + j)) m)
unfolding every
every_append f w zero = ap (every f) (let z : w + 0 ≡ w = omega arith in z) ∙ by (every f w)
  where
    by : (t : Bool) → t ≡ (t && true)
    by true = refl
    by false = refl
every_append f w (suc m) = ap (every f) (let z : w + suc m ≡ suc (w + m) = omega arith in z) ∙ ap (λ (t : Bool). t && f (w + m)) (every_append f w m) ∙ by (every f w) (every (λ j. f (w + j)) m) (f (w + m))
  where
    by : (a b d : Bool) → ((a && b) && d) ≡ (a && (b && d))
    by true b d = refl
    by false b d = refl

every_same : (f g : ℕ → Bool) (n : ℕ) → ((j : ℕ) → j < n → f j ≡ g j) → every f n ≡ every g n
unfolding every
every_same f g zero h = refl
every_same f g (suc n) h = (λ i. every_same f g n (λ j lt. h j (omega arith)) i && h n (omega arith) i)

every_listed : (test : Float → Bool) (l : List Float) → list_all test l ≡ every (λ j. test (get_or l j float.zero)) (length l)
unfolding every
every_listed test [] = refl
every_listed test (x ∷ l) =
    ap (λ (t : Bool). test x && t) (every_listed test l)
    ∙ sym (ap (every (λ j. test (get_or (x ∷ l) j float.zero))) (let z : suc (length l) ≡ 1 + length l = omega arith in z) ∙ every_append (λ j. test (get_or (x ∷ l) j float.zero)) 1 (length l)
    ∙ ap (λ (t : Bool). test x && t) (every_same (λ j. test (get_or (x ∷ l) (1 + j) float.zero)) (λ j. test (get_or l j float.zero)) (length l) (λ j h. ap (λ (k : ℕ). test (get_or (x ∷ l) k float.zero)) (let z : 1 + j ≡ suc j = omega arith in z))))

-- ---- one record
some_whole : (x : Float) → is_some (whole_of x) ≡ is_whole x
unfolding whole_of
some_whole x = by (is_whole x)
  where
    by : (t : Bool) → is_some (cond t (Some (whole_part (magnitude x))) None) ≡ t
    by true = refl
    by false = refl

record_by : (parts : List Float) → 0 < length parts → (is_whole (get_or parts 0 float.zero) && list_all (λ x. eq x float.zero) (drop 1 parts)) ≡ is_writable (length parts) parts
unfolding is_writable fits_at every
record_by [] h = absurd (omega arith)
record_by (x ∷ l) h =
    ap (λ (t : Bool). is_whole x && t) (every_listed (λ y. eq y float.zero) l ∙ every_same (λ j. eq (get_or l j float.zero) float.zero) (λ j. fits_at (suc (length l)) (x ∷ l) (1 + j)) (length l) other)
    ∙ sym (ap (every (fits_at (suc (length l)) (x ∷ l))) (let z : suc (length l) ≡ 1 + length l = omega arith in z) ∙ every_append (fits_at (suc (length l)) (x ∷ l)) 1 (length l)
    ∙ ap (λ (k : ℕ). cond (eqb k 0) (is_whole x) (eq x float.zero) && every (λ j. fits_at (suc (length l)) (x ∷ l) (1 + j)) (length l)) (mod-eq_of_lt (let z : 0 < suc (length l) = omega arith in z)))
  where
    other : (j : ℕ) → j < length l → eq (get_or l j float.zero) float.zero ≡ fits_at (suc (length l)) (x ∷ l) (1 + j)
    other j lt =
        let part : (1 + j) % suc (length l) ≡ suc j = mod-eq_of_lt (let z : 1 + j < suc (length l) = omega arith in z) ∙ (let z : 1 + j ≡ suc j = omega arith in z) in
        sym (ap (λ (k : ℕ). cond (eqb k 0) (is_whole (get_or (x ∷ l) (1 + j) float.zero)) (eq (get_or (x ∷ l) (1 + j) float.zero) float.zero)) part
        ∙ ap (λ (t : Bool). cond t (is_whole (get_or (x ∷ l) (1 + j) float.zero)) (eq (get_or (x ∷ l) (1 + j) float.zero) float.zero)) (ne_eqb (suc j) 0 (λ e. omega arith))
        ∙ ap (λ (k : ℕ). eq (get_or (x ∷ l) k float.zero) float.zero) (let z : 1 + j ≡ suc j = omega arith in z))

module _ (parts : List Float) (some : 0 < length parts) (s : Bool) (told : s ≡ is_some (whole_of (get_or parts 0 nan))) where
  first_told : s ≡ is_whole (get_or parts 0 float.zero)
  first_told = told ∙ ap (λ (x : Float). is_some (whole_of x)) (get_or-inside parts 0 nan float.zero some) ∙ some_whole (get_or parts 0 float.zero)

  pub record_not : s ≡ false → s ≡ is_writable (length parts) parts
  record_not e = e ∙ ap (λ (t : Bool). t && list_all (λ x. eq x float.zero) (drop 1 parts)) (sym (sym first_told ∙ e)) ∙ record_by parts some

  pub record_is : (r : Bool) → s ≡ true → r ≡ list_all (λ x. eq x float.zero) (drop 1 parts) → r ≡ is_writable (length parts) parts
  record_is r e f = f ∙ ap (λ (t : Bool). t && list_all (λ x. eq x float.zero) (drop 1 parts)) (sym (sym first_told ∙ e)) ∙ record_by parts some

-- ---- record after record
pub writable_none : (w : ℕ) (a : List Float) → length a ≡ 0 → true ≡ is_writable w a
unfolding is_writable every
writable_none w a e = sym (ap (every (fits_at w a)) e)

pub writable_more : (w : ℕ) (x rest : List Float) → length x ≡ w → is_writable w (x ++ rest) ≡ (is_writable (length x) x && is_writable w rest)
unfolding is_writable fits_at
writable_more w x rest e =
    ap (every (fits_at w (x ++ rest))) (length-append x rest)
    ∙ every_append (fits_at w (x ++ rest)) (length x) (length rest)
    ∙ (λ i. every_same (fits_at w (x ++ rest)) (fits_at (length x) x) (length x) here i && every_same (λ j. fits_at w (x ++ rest) (length x + j)) (fits_at w rest) (length rest) there i)
  where
    here : (j : ℕ) → j < length x → fits_at w (x ++ rest) j ≡ fits_at (length x) x j
    here j h = (λ i. cond (eqb (j % sym e i) 0) (is_whole (get_or-append x rest float.zero j h i)) (eq (get_or-append x rest float.zero j h i) float.zero))

    there : (j : ℕ) → j < length rest → fits_at w (x ++ rest) (length x + j) ≡ fits_at w rest j
    there j h =
        let part : (length x + j) % w ≡ j % w = ap (λ (k : ℕ). (k + j) % w) e ∙ ap (λ (k : ℕ). k % w) (let z : w + j ≡ 1 * w + j = omega arith in z) ∙ mul-add-mod_self_right 1 w j in
        let same : get_or (x ++ rest) (length x + j) float.zero ≡ get_or rest j float.zero = get_or-append-add x rest j float.zero in
        (λ i. cond (eqb (part i) 0) (is_whole (same i)) (eq (same i) float.zero))
