-- What the public functions of a record's crate leave, from what their parts give: laws over any kind of record. Assumes nothing.
use Prim.Native.Nat.{ℕ, ◌*◌}
use mathlib.Core.Path.{◌≡◌, refl, ap, sym, ◌∙◌}
use mathlib.Core.List.{List}
use native.Mathlib.Omega.{arith}
use lib.ListN.{length, get_or, set}
use lib.Ieee.{Float}
use lib.IntN.{ℤ, pos}
use mir.Syntax.{w32}
use mir.Val.{SFits, to_z, of_z}
use mir.ValLaws.{to_z-of_z}
use borrow.Author.Tests.{eq-eqb, ne_eqb}
use Rattle.std.specs.Prelude.{Option, None, Some}
use Rattle.real.specs.Operations as float
use Rattle.refusals.specs.Number as refusal
use Rattle.refusals.specs.Largest as largest
use Rattle.algebra.specs.Algebra.{zero_of}
use Rattle.algebra.specs.Flat.{decode, sum_of, product_of}
use Rattle.algebra.specs.Outcome.{Outcome, value, map_outcome}
use Rattle.algebra.proofs.Laws.{Laws}
use Rattle.calls.specs.declared.Binary.{Binary}
use Rattle.calls.specs.declared.Binary.TheVariants.{Add, Sub, Mul, Div, AbsSub}
use Rattle.calls.specs.declared.Operation.TheVariants as operation
use Rattle.calls.specs.declared.table.Call.{Call}
use Rattle.calls.specs.declared.table.Call.TheVariants.{Record}
use Rattle.calls.specs.Table.{line, line_of}
use Rattle.floats.specs.Words.{first_floats, words_of}
use Rattle.calls.specs.Called.{Kind, fitting, call_of, called_of, operated_of, binary_number, binary_of, answer_of, leaves, joined_left, summed_of, multiplied_of}
use Rattle.algebra.proofs.Cells.{one_written}
use Rattle.calls.proofs.Lent.{lent}

-- A call by number: the call that was found leaves it, of the three records that were read.
module _ {R : Type 0} (K : Kind R) (Q : Laws K.algebra K.layout) (function : ℕ) (exponent : ℤ) (records floats out : List ℕ) where
  pub called : (call : Call) (x y z : R) (left : ℕ × List ℕ) (l : List Float) (count : ℕ) → left ≡ leaves (map_outcome words_of (answer_of K call x y z)) out → SFits w32 exponent
      → Some call ≡ call_of K.layout.width function (to_z w32 (of_z w32 exponent)) (length records) floats (length out)
      → x ≡ get_or (decode K.layout l) 0 (zero_of K.algebra) → y ≡ get_or (decode K.layout l) 1 (zero_of K.algebra) → z ≡ get_or (decode K.layout l) 2 (zero_of K.algebra)
      → l ≡ first_floats records count → length l ≡ 3 * K.layout.width → left ≡ called_of K function exponent records floats out
  unfolding called_of
  called call x y z left l count h fits told e f g first size =
      let narrow = Q.narrow in
      let found = rw (to_z-of_z w32 exponent fits) at told in
      rw (← found, ← lent Q records l count first 0 x (omega arith) e, ← lent Q records l count first 1 y (omega arith) f, ← lent Q records l count first 2 z (omega arith) g) h

-- A number and lengths that no call has.
module _ {R : Type 0} (K : Kind R) (function : ℕ) (exponent : ℤ) (records floats out : List ℕ) where
  pub not_called : (found : Option Call) → SFits w32 exponent → found ≡ call_of K.layout.width function (to_z w32 (of_z w32 exponent)) (length records) floats (length out)
      → found ≡ None → (refusal.wrong_length, out) ≡ called_of K function exponent records floats out
  unfolding called_of
  not_called found fits told e =
      let none = sym (rw (to_z-of_z w32 exponent fits) at told) ∙ e in
      rw none

-- the line of the number of an operation on two records
binary_line : (op : Binary) → line_of (binary_number op) float.zero float.zero (pos 0) ≡ Some (line 2 0 (Record (operation.Binary op)))
binary_line Add = refl
binary_line Sub = refl
binary_line Mul = refl
binary_line Div = refl
binary_line AbsSub = refl

-- An operation on two records, by the lengths alone.
module _ {R : Type 0} (K : Kind R) (Q : Laws K.algebra K.layout) (op : Binary) (records out : List ℕ) where
  pub operated : (x y r : R) (left : ℕ × List ℕ) (l : List Float) (count : ℕ) → left ≡ leaves (map_outcome words_of (map_outcome K.layout.parts (value r))) out
      → r ≡ binary_of K op x y → length records ≡ 2 * K.layout.width → length out ≡ K.layout.width
      → x ≡ get_or (decode K.layout l) 0 (zero_of K.algebra) → y ≡ get_or (decode K.layout l) 1 (zero_of K.algebra)
      → l ≡ first_floats records count → length l ≡ 2 * largest.width → left ≡ operated_of K op records out
  unfolding operated_of called_of call_of fitting
  operated x y r left l count h g two one e f first size =
      let narrow = Q.narrow in
      rw (binary_line op, eq-eqb _ _ two, eq-eqb _ _ one, ← lent Q records l count first 0 x (omega arith) e, ← lent Q records l count first 1 y (omega arith) f, ← g) h

module _ {R : Type 0} (K : Kind R) (op : Binary) (records out : List ℕ) where
  pub operated_records : (length records ≡ 2 * K.layout.width → ⊥) → (refusal.wrong_length, out) ≡ operated_of K op records out
  unfolding operated_of called_of call_of fitting
  operated_records other = rw (binary_line op, ne_eqb _ _ other)

  pub operated_out : length records ≡ 2 * K.layout.width → (length out ≡ K.layout.width → ⊥) → (refusal.wrong_length, out) ≡ operated_of K op records out
  unfolding operated_of called_of call_of fitting
  operated_out two other = rw (binary_line op, eq-eqb _ _ two, ne_eqb _ _ other)

-- A sum and a product: what joins the run, left in floats.
module _ {R : Type 0} (K : Kind R) (run out : List Float) (joined : Outcome R) (left : ℕ × List Float) where
  pub summed : joined ≡ sum_of K.layout K.algebra run → left ≡ joined_left K joined out → left ≡ summed_of K run out
  unfolding summed_of
  summed e h = rw (← e) h

  pub multiplied : joined ≡ product_of K.layout K.algebra run → left ≡ joined_left K joined out → left ≡ multiplied_of K run out
  unfolding multiplied_of
  multiplied e h = rw (← e) h

-- A record that is written alone: its parts.
module _ {R : Type 0} (K : Kind R) (Q : Laws K.algebra K.layout) where
  pub put_words : (x : R) (m : List R) (l : List Float) (left : List ℕ) → left ≡ words_of l → length l ≡ K.layout.width → decode K.layout l ≡ set m 0 x → left ≡ words_of (K.layout.parts x)
  put_words x m l left e size stored = e ∙ ap words_of (one_written Q l m x size stored)

  pub join_value : (answer : Outcome R) (x : R) (m : List R) (out left : List Float) → answer ≡ value x
      → length out ≡ K.layout.width → length left ≡ length out → decode K.layout left ≡ set m 0 x → (0, left) ≡ joined_left K answer out
  join_value answer x m out left told one kept stored = rw (eq-eqb _ _ one, told, one_written Q left m x (kept ∙ one) stored)
