-- A matrix entry by entry and record by record, and its text line by line. Assumes nothing.
use Prim.Native.Nat.{ℕ, suc, ◌+◌, ◌*◌, ◌/◌, ◌%◌, ◌<◌, ◌≤◌}
use mathlib.Core.Path.{◌≡◌, refl, sym, ap, ◌∙◌}
use mathlib.Core.Bool.{Bool, true, false, cond, ◌&&◌}
use mathlib.Core.List.{List, [], ◌∷◌, ◌++◌}
use native.Mathlib.Nat.{mul-le-mul_right, mod-eq_of_lt, mul-add-mod_self_right, mul-add-div_right, div-eq_of_lt}
use native.Mathlib.Omega.{arith}
use lib.ListN.{length, get_or, length-append}
use lib.Ieee.{Float, nan, lt}
use Rattle.std.specs.Prelude.{Option, Some, None}
use Rattle.real.specs.Operations as float
use Rattle.algebra.proofs.Inside.{get_or-inside}
use Rattle.texts.specs.Bytes as byte
use Rattle.texts.specs.Numbers.{decimal_text}
use Rattle.texts.specs.declared.write.Writer.{Writer}
use Rattle.texts.specs.Page.{Puts}
use Rattle.texts.proofs.Page.{puts_none, puts_then, puts_as}
use Rattle.matrices.specs.Matrix.{Square}
use Rattle.market.specs.Format.{sign}
use Rattle.market.specs.Text.{magnitude, whole_part, is_whole, number_line, line_of, entry_at, lines_of, is_writable}
use Rattle.market_writer.specs.Told.{whole_of}
use Rattle.market_writer.proofs.WholeParts.{writable_none, writable_more}

-- ---- an entry
pub entry_read : (w n : ℕ) (a : List Float) → Square w n a → (r c : ℕ) → r < n → c < n → get_or a ((r * n + c) * w) nan ≡ entry_at w n a (c * n + r)
unfolding entry_at
entry_read w n a square r c row column =
    let positive : 0 < n = omega arith in
    let rest : (c * n + r) % n ≡ r = mul-add-mod_self_right c n r ∙ mod-eq_of_lt row in
    let part : (c * n + r) / n ≡ c = mul-add-div_right positive c r ∙ ap (λ (x : ℕ). c + x) (div-eq_of_lt row) ∙ (let z : c + 0 ≡ c = omega arith in z) in
    let below : suc (r * n + c) ≤ n * n = (let m : suc r * n ≤ n * n = mul-le-mul_right n row in let d : suc r * n ≡ r * n + n = omega arith in omega arith) in
    let inside : (r * n + c) * w < length a = (let m : suc (r * n + c) * w ≤ n * n * w = mul-le-mul_right w below in let d : suc (r * n + c) * w ≡ (r * n + c) * w + w = omega arith in omega (arith, square.full, square.some)) in
    get_or-inside a ((r * n + c) * w) nan float.zero inside ∙ (λ i. get_or a ((sym rest i * n + sym part i) * w) float.zero)

-- ---- record by record: all can be written if what is left can, which is whole records
pub record Checking (w : ℕ) (a : List Float) (size : ℕ) (rest : List Float) : Type 0 where
  pub width : size ≡ w
  pub records : length rest % w ≡ 0
  pub left : is_writable w a ≡ is_writable w rest

module _ (w : ℕ) (a : List Float) where
  pub checking_none : (n size : ℕ) (rest : List Float) → length a ≡ n * n * w → 0 < w → size ≡ w → rest ≡ a → Checking w a size rest
  checking_none n size rest full some e f = record {
    width = e;
    records = ap (λ (l : List Float). length l % w) f ∙ ap (λ (k : ℕ). k % w) full ∙ ap (λ (k : ℕ). k % w) (let z : n * n * w ≡ n * n * w + 0 = omega arith in z) ∙ mul-add-mod_self_right (n * n) w 0 ∙ mod-eq_of_lt some;
    left = ap (is_writable w) (sym f);
  }

  module _ (size : ℕ) (rest : List Float) (here : Checking w a size rest) where
    module _ (parts after : List Float) (cut : rest ≡ parts ++ after) (long : length parts ≡ size) (t : Bool) (told : t ≡ is_writable (length parts) parts) where
      by_record : is_writable w a ≡ (t && is_writable w after)
      by_record = here.left ∙ ap (is_writable w) cut ∙ writable_more w parts after (long ∙ here.width) ∙ ap (λ (b : Bool). b && is_writable w after) (sym told)

      pub checking_more : (next : ℕ) → next ≡ size → t ≡ true → Checking w a next after
      checking_more next e yes-it-is = record {
        width = e ∙ here.width;
        records =
            sym (mul-add-mod_self_right 1 w (length after)) ∙ ap (λ (k : ℕ). k % w) (let q = here.width in let z : 1 * w + length after ≡ length rest = omega (arith, ap length cut, length-append parts after) in z) ∙ here.records;
        left = by_record ∙ ap (λ (b : Bool). b && is_writable w after) yes-it-is;
      }

      pub checking_stops : t ≡ false → false ≡ is_writable w a
      checking_stops no-it-is-not = sym (by_record ∙ ap (λ (b : Bool). b && is_writable w after) no-it-is-not)

    pub checking_ends : length rest < size → true ≡ is_writable w a
    checking_ends h =
        let q = here.width in
        writable_none w rest (sym (mod-eq_of_lt (let z : length rest < w = omega arith in z)) ∙ here.records) ∙ sym here.left

-- ---- the line of a float
line_by : Float → Option ℕ → List ℕ
line_by x (Some v) = number_line (lt x float.zero) v
line_by x None = []

line_is : (x : Float) → line_by x (whole_of x) ≡ line_of x
unfolding line_by whole_of line_of
line_is x = by (is_whole x)
  where
    by : (t : Bool) → line_by x (cond t (Some (whole_part (magnitude x))) None) ≡ cond t (number_line (lt x float.zero) (whole_part (magnitude x))) []
    by true = refl
    by false = refl

pub line_none : {w : Writer} (x : Float) → None ≡ whole_of x → Puts w w (line_of x)
unfolding line_by
line_none x e = puts_as puts_none (ap (line_by x) e ∙ line_is x)

pub line_some : {u v w z : Writer} (x : Float) (m : ℕ) → Some m ≡ whole_of x → Puts u v (sign (lt x float.zero)) → Puts v w (decimal_text m) → Puts w z (byte.newline ∷ []) → Puts u z (line_of x)
unfolding line_by number_line
line_some x m e f g h = puts_as (puts_then _ _ (puts_then _ _ f g) h) (ap (line_by x) e ∙ line_is x)

-- ---- the lines of the entries
module _ (w n : ℕ) (a : List Float) where
  pub lines_none : {v : Writer} → Puts v v (lines_of w n a (0 * n))
  unfolding lines_of
  lines_none = puts_as puts_none (ap (lines_of w n a) (let z : 0 ≡ 0 * n = omega arith in z))

  pub line_more : {u v z : Writer} (c r : ℕ) (x : Float) → Puts u v (lines_of w n a (c * n + r)) → x ≡ entry_at w n a (c * n + r) → Puts v z (line_of x) → Puts u z (lines_of w n a (c * n + (r + 1)))
  unfolding lines_of
  line_more c r x f e g =
      puts_as (puts_then _ _ f (puts_as g (ap line_of e)))
      (ap (lines_of w n a) (let z : suc (c * n + r) ≡ c * n + (r + 1) = omega arith in z))
