-- What a call does over any record type, and what it leaves: its number and the lent out. Definitions only.
use Rattle.std.specs.Prelude.{ℕ, ◌+◌, ◌*◌, ◌≡◌, Bool, cond, not, List, [], ◌∷◌, ◌++◌, eqb, length, get_or, Float, ℤ, pos, Option, None, Some}
use Rattle.std.specs.Float.Ieee.{eq, lt, le}
use Rattle.refusals.specs.Number as refusal
use Rattle.real.specs.Operations as float
use Rattle.real.specs.Sign.{sign_of}
use Rattle.algebra.specs.Algebra.{Algebra, add_float, sub_float, magnitude}
use Rattle.algebra.specs.Flat.{Layout, record_at, sum_of, product_of}
use Rattle.algebra.specs.Outcome.{Outcome, value, refused, map_outcome}
use Rattle.derivatives.specs.Apply.{apply_of, sin_of, cos_of, atan2_of, mul_add_of, powd_of, abs_sub_of, signum_of}
use Rattle.records.specs.declared.Derivative.{Derivative}
use Rattle.calls.specs.declared.Predicate.{Predicate}
use Rattle.calls.specs.declared.Predicate.TheVariants.{Eq, Lt, Le, Gt, Ge, IsNegative, IsPositive, IsZero, IsOne}
use Rattle.calls.specs.declared.Unary.{Unary}
use Rattle.calls.specs.declared.Unary.TheVariants as unary
use Rattle.calls.specs.declared.Binary.{Binary}
use Rattle.calls.specs.declared.Binary.TheVariants as binary
use Rattle.calls.specs.declared.ByFloat.{ByFloat}
use Rattle.calls.specs.declared.ByFloat.TheVariants as by_float
use Rattle.calls.specs.declared.Operation.{Operation}
use Rattle.calls.specs.declared.Operation.TheVariants as operation
use Rattle.calls.specs.declared.table.Call.{Call}
use Rattle.calls.specs.declared.table.Call.TheVariants.{Truth, SinCos, Record}
use Rattle.calls.specs.declared.table.Line.{Line}
use Rattle.calls.specs.Table.{line_of}
use Rattle.floats.specs.Words.{floats_of, words_of}

-- A record type by what calls use of it: its operations, its layout in flat floats, how many derivatives it carries, and `derivative`, `derivative1`, .., refused 2 where the record has no
-- such one.
pub record Kind (R : Type 0) : Type 0 where
  pub algebra : Algebra R
  pub layout : Layout R
  pub nderiv : ℕ
  pub derivative : Derivative → R → Outcome R

-- the record type of a bound, by the members of `Record`
abbrev pub kind_of : {R : Type 0} → Algebra R → Layout R → ℕ → (Derivative → R → Outcome R) → Kind R
kind_of algebra layout nderiv derivative = record { algebra = algebra; layout = layout; nderiv = nderiv; derivative = derivative }

-- a predicate of the real parts a and b
abbrev pub holds : Predicate → Float → Float → Bool
holds Eq a b = eq a b
holds Lt a b = lt a b
holds Le a b = le a b
holds Gt a b = lt b a
holds Ge a b = le b a
holds IsNegative a b = sign_of a
holds IsPositive a b = not (sign_of a)
holds IsZero a b = eq a float.zero
holds IsOne a b = eq a float.one

-- 1.0 where a predicate holds, else 0.0
abbrev pub truth : Bool → Float
truth holds = cond holds float.one float.zero

-- the function number of an operation on two records
abbrev pub binary_number : Binary → ℕ
binary_number binary.Add = 0x09
binary_number binary.Sub = 0x0a
binary_number binary.Mul = 0x0b
binary_number binary.Div = 0x0c
binary_number binary.AbsSub = 0x17

-- how many floats a call gives, at `width` floats a record
abbrev pub size_of : ℕ → Call → ℕ
size_of width (Truth predicate) = 1
size_of width (SinCos sin cos) = width + width
size_of width (Record op) = width

-- there are as many floats of out as the call gives
abbrev pub Sized : ℕ → ℕ → Call → Type 0
Sized width out (Truth predicate) = out ≡ 1
Sized width out (SinCos sin cos) = out ≡ width + width
Sized width out (Record op) = out ≡ width

-- the call of a line where there are so many floats of records, plain floats and floats of out as it takes, else None
unfoldable pub fitting : ℕ → Line → ℕ → ℕ → ℕ → Option Call
fitting width r records floats out =
    cond (eqb records (r.records * width)) (cond (eqb floats r.floats) (cond (eqb out (size_of width r.call)) (Some r.call) None) None) None

-- the same where there is a line
abbrev pub fitting_line : ℕ → Option Line → ℕ → ℕ → ℕ → Option Call
fitting_line width None records floats out = None
fitting_line width (Some r) records floats out = fitting width r records floats out

-- the call of a function number; the floats are lent as words
unfoldable pub call_of : ℕ → ℕ → ℤ → ℕ → List ℕ → ℕ → Option Call
call_of width function exponent records floats out =
    fitting_line width (line_of function (get_or (floats_of floats) 0 float.zero) (get_or (floats_of floats) 1 float.zero) exponent) records (length floats) out

-- what a call leaves: the number 0 and what it gives, or the number that it is refused by and out as it was
abbrev pub leaves : {T : Type 0} → Outcome (List T) → List T → ℕ × List T
leaves (value given) out = (0, given)
leaves (refused number) out = (number, out)

module _ {R : Type 0} (K : Kind R) where
  abbrev pub unary_of : Unary → R → R
  unary_of unary.Neg x = K.algebra.neg x
  unary_of unary.Abs x = magnitude K.algebra x
  unary_of unary.Signum x = signum_of K.algebra x

  abbrev pub binary_of : Binary → R → R → R
  binary_of binary.Add x y = K.algebra.add x y
  binary_of binary.Sub x y = K.algebra.sub x y
  binary_of binary.Mul x y = K.algebra.mul x y
  binary_of binary.Div x y = K.algebra.div x y
  binary_of binary.AbsSub x y = abs_sub_of K.algebra x y

  abbrev pub by_float_of : ByFloat → R → Float → R
  by_float_of by_float.Mul x f = K.algebra.mul_float x f
  by_float_of by_float.Div x f = K.algebra.div_float x f
  by_float_of by_float.Add x f = add_float K.algebra x f
  by_float_of by_float.Sub x f = sub_float K.algebra x f

  -- what gives one record
  abbrev pub operate_of : Operation → R → R → R → Outcome R
  operate_of (operation.FromRe re) x y z = value (K.algebra.from_re re)
  operate_of (operation.Derivative which) x y z = K.derivative which x
  operate_of (operation.Unary op) x y z = value (unary_of op x)
  operate_of (operation.Binary op) x y z = value (binary_of op x y)
  operate_of (operation.ByFloat op f) x y z = value (by_float_of op x f)
  operate_of (operation.Atan2 atan quadrant) x y z = value (atan2_of K.algebra x y atan quadrant)
  operate_of operation.MulAdd x y z = value (mul_add_of K.algebra x y z)
  operate_of (operation.Powd ln exp) x y z = value (powd_of K.algebra x y ln exp)
  operate_of (operation.Request f) x y z = apply_of K.algebra K.nderiv x f

  -- what a call gives, as floats
  abbrev pub answer_of : Call → R → R → R → Outcome (List Float)
  answer_of (Truth predicate) x y z = value (truth (holds predicate (K.algebra.re x) (K.algebra.re y)) ∷ [])
  answer_of (SinCos sin cos) x y z = value (K.layout.parts (sin_of K.algebra x sin cos) ++ K.layout.parts (cos_of K.algebra x sin cos))
  answer_of (Record op) x y z = map_outcome K.layout.parts (operate_of op x y z)

  -- no function, or a length that it does not take, is refused 2
  abbrev pub found_answer : Option Call → R → R → R → Outcome (List Float)
  found_answer None x y z = refused refusal.wrong_length
  found_answer (Some call) x y z = answer_of call x y z

  -- record number p of the words
  abbrev pub lent_record : List ℕ → ℕ → R
  lent_record words p = record_at K.layout (floats_of words) p

  -- what a call by number leaves, where records, floats and out are lent as words
  unfoldable pub called_of : ℕ → ℤ → List ℕ → List ℕ → List ℕ → ℕ × List ℕ
  called_of function exponent records floats out =
      let call = call_of K.layout.width function exponent (length records) floats (length out) in
      leaves (map_outcome words_of (found_answer call (lent_record records 0) (lent_record records 1) (lent_record records 2))) out

  -- what an operation on two records leaves: the call of its number, without floats
  unfoldable pub operated_of : Binary → List ℕ → List ℕ → ℕ × List ℕ
  operated_of op records out = called_of (binary_number op) (pos 0) records [] out

  -- what a sum or a product of a run of flat floats leaves, where out is one record
  abbrev pub joined_left : Outcome R → List Float → ℕ × List Float
  joined_left joined out = cond (eqb (length out) K.layout.width) (leaves (map_outcome K.layout.parts joined) out) (refusal.wrong_length, out)

  unfoldable pub summed_of : List Float → List Float → ℕ × List Float
  summed_of run out = joined_left (sum_of K.layout K.algebra run) out

  unfoldable pub multiplied_of : List Float → List Float → ℕ × List Float
  multiplied_of run out = joined_left (product_of K.layout K.algebra run) out
