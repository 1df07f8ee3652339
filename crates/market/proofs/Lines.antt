-- Lines read: the header, the size line, the line of an entry; and which lines a text that is written has. Assumes nothing.
use Prim.Native.Nat.{ℕ, ◌*◌, ◌≤◌}
use mathlib.Core.Path.{◌≡◌, refl, sym, ap, ◌∙◌}
use mathlib.Core.Bool.{Bool, true, false, cond, not, true≢false}
use mathlib.Core.List.{List, [], ◌∷◌, ◌++◌, append_assoc}
use native.Mathlib.Omega.{arith}
use lib.Dec.{eqb}
use lib.ListN.{length, get_or-append}
use lib.Seq.{append_snoc}
use lib.Ieee.{Float}
use borrow.Author.Tests.{le-ltb, eq-eqb, ne_eqb}
use Rattle.refusals.specs.Largest as largest
use Rattle.algebra.specs.Outcome.{value}
use Rattle.texts.specs.Bytes as byte
use Rattle.texts.specs.Digits.{byte_at, every, is_digit, digit_value, starts_with}
use Rattle.texts.specs.Numbers.{decimal_text}
use Rattle.texts.specs.Whole.{worth}
use Rattle.texts.proofs.Every.{every_true}
use Rattle.market.specs.Format.{Digits, header, sign, signed}
use Rattle.market.specs.Head.{opened, comments, squared, columns_line, size_line, head_of}
use Rattle.market.specs.Entries.{line, magnitude_line, entry_of}
use Rattle.market.specs.Text.{number_line, lines_of, size_text, text_of}
use Rattle.market.proofs.Decimals.{first_digit, worth_read, past_read, space_ends, newline_ends}

-- a digit is none of the other bytes
pub digit_other : (b c : ℕ) → is_digit 10 b ≡ true → is_digit 10 c ≡ false → eqb b c ≡ false
digit_other b c d e = ne_eqb b c (λ q. true≢false (sym d ∙ ap (is_digit 10) q ∙ e))

-- ---- the size line
module _ (s : Bool) (rows columns l : List ℕ) (row_digits : Digits rows) (column_digits : Digits columns) where
  columns_read : (n : ℕ) → columns_line s n (columns ++ (byte.newline ∷ l)) ≡ squared s n (worth 0 columns) l
  unfolding columns_line
  columns_read n =
      rw (first_digit columns column_digits (byte.newline ∷ l), past_read columns column_digits byte.newline newline_ends l, worth_read columns column_digits byte.newline newline_ends l)

  pub size_read : size_line s (rows ++ (byte.space ∷ (columns ++ (byte.newline ∷ l)))) ≡ squared s (worth 0 rows) (worth 0 columns) l
  unfolding size_line
  size_read =
      let m = columns ++ (byte.newline ∷ l) in
      rw (first_digit rows row_digits (byte.space ∷ m), past_read rows row_digits byte.space space_ends m, worth_read rows row_digits byte.space space_ends m) (columns_read (worth 0 rows))

pub square_read : (s : Bool) (n : ℕ) (l : List ℕ) → n ≤ largest.n → squared s n n l ≡ value (opened n s l)
unfolding squared
square_read s n l few = rw (eq-eqb n n refl, le-ltb largest.n n few)

-- ---- the header, and no comment after it
pub no_comment : (l : List ℕ) → is_digit 10 (byte_at l 0) ≡ true → comments false l ≡ l
unfolding comments digit_value
no_comment [] d = refl
no_comment (b ∷ l) d = ap (λ (t : Bool). cond t (comments (not (eqb b byte.newline)) l) (b ∷ l)) (digit_other b byte.percent d refl)

pub starts_own : (word l : List ℕ) → starts_with word (word ++ l) ≡ true
unfolding starts_with
starts_own word l = every_true (λ i. eqb (byte_at (word ++ l) i) (byte_at word i)) (length word) (λ i h. eq-eqb (byte_at (word ++ l) i) (byte_at word i) (get_or-append word l 0 i h))

-- a symmetric text does not begin as a general one
starts_other : (l : List ℕ) → starts_with (header false) (header true ++ l) ≡ false
unfolding starts_with every
starts_other l = refl

pub header_read : (s : Bool) (l : List ℕ) → length (header s ++ l) ≤ largest.market → head_of (header s ++ l) ≡ size_line s (comments false l)
unfolding head_of
header_read false l h = rw (le-ltb largest.market (length (header false ++ l)) h, starts_own (header false) l)
header_read true l h = rw (le-ltb largest.market (length (header true ++ l)) h, starts_other l, starts_own (header true) l)

module _ (w n : ℕ) (a : List Float) where
  abbrev body : List ℕ
  body = decimal_text n ++ (byte.space ∷ (decimal_text n ++ (byte.newline ∷ lines_of w n a (n * n))))

  pub text_shape : text_of w n a ≡ header false ++ body
  unfolding text_of size_text
  text_shape =
      append_assoc (header false) (size_text n) (lines_of w n a (n * n))
      ∙ ap (λ (l : List ℕ). header false ++ l)
      (append_snoc (decimal_text n ++ (byte.space ∷ []) ++ decimal_text n) byte.newline (lines_of w n a (n * n))
      ∙ append_assoc (decimal_text n ++ (byte.space ∷ [])) (decimal_text n) (byte.newline ∷ lines_of w n a (n * n))
      ∙ append_snoc (decimal_text n) byte.space (decimal_text n ++ (byte.newline ∷ lines_of w n a (n * n))))

-- ---- the line of an entry
module _ (digits r : List ℕ) (all : Digits digits) (small : worth 0 digits ≤ largest.whole) where
  magnitude_read : (minus : Bool) → magnitude_line minus (digits ++ (byte.newline ∷ r)) ≡ value (line (signed minus (worth 0 digits)) r)
  unfolding magnitude_line
  magnitude_read minus =
      rw (worth_read digits all byte.newline newline_ends r, le-ltb largest.whole (worth 0 digits) small, past_read digits all byte.newline newline_ends r, ne_eqb (length (byte.newline ∷ r)) 0 (λ e. omega arith), first_digit digits all (byte.newline ∷ r))

  pub entry_read : (minus : Bool) → entry_of (sign minus ++ (digits ++ (byte.newline ∷ r))) ≡ value (line (signed minus (worth 0 digits)) r)
  unfolding entry_of digit_value
  entry_read true = magnitude_read true
  entry_read false = rw (digit_other (byte_at (digits ++ (byte.newline ∷ r)) 0) byte.minus (first_digit digits all (byte.newline ∷ r)) refl) (magnitude_read false)

pub number_shape : (minus : Bool) (v : ℕ) (r : List ℕ) → number_line minus v ++ r ≡ sign minus ++ (decimal_text v ++ (byte.newline ∷ r))
unfolding number_line
number_shape minus v r = append_snoc (sign minus ++ decimal_text v) byte.newline r ∙ append_assoc (sign minus) (decimal_text v) (byte.newline ∷ r)
