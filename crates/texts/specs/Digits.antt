-- Bytes and digits at a place of a text. Definitions only.
use Rattle.std.specs.Prelude.{ℕ, zero, suc, ◌+◌, ◌-◌, ◌*◌, Bool, true, cond, not, ◌&&◌, Option, Some, None, List, leb, ltb, eqb, length, get_or}
use Rattle.texts.specs.declared.Scan.{Scan}
use Rattle.texts.specs.Bytes.{newline, digit_zero, digit_nine, letter_a, letter_f}

-- the byte at p; 0 past the end
abbrev pub byte_at : List ℕ → ℕ → ℕ
byte_at text p = get_or text p 0

-- p of every number below n
unfoldable pub every : (ℕ → Bool) → ℕ → Bool
every p zero = true
every p (suc n) = every p n && p n

-- the text begins with the word
unfoldable pub starts_with : List ℕ → List ℕ → Bool
starts_with word text = every (λ i. eqb (byte_at text i) (byte_at word i)) (length word)

-- no byte of the text is a newline
unfoldable pub no_newline : List ℕ → Bool
no_newline text = every (λ i. not (eqb (byte_at text i) newline)) (length text)

-- the value of a digit, 0 to 9 or a to f; 16 for any other byte
unfoldable pub digit_value : ℕ → ℕ
digit_value b = cond (leb digit_zero b && leb b digit_nine) (b - digit_zero) (cond (leb letter_a b && leb b letter_f) (b - letter_a + 10) 16)

-- b is a digit of the base, which is at most 16
abbrev pub is_digit : ℕ → ℕ → Bool
is_digit base b = ltb (digit_value b) base

-- the value of a digit of the base
abbrev pub digit_of : ℕ → ℕ → Option ℕ
digit_of base b = cond (is_digit base b) (Some (digit_value b)) None

-- how many of the d bytes from p on are digits, up to the first that is none
unfoldable pub digit_run : ℕ → ℕ → List ℕ → ℕ → ℕ
digit_run base zero text p = 0
digit_run base (suc d) text p = cond (is_digit base (byte_at text p)) (suc (digit_run base d text (p + 1))) 0

-- the number that the k digits from p on spell
unfoldable pub number_at : ℕ → List ℕ → ℕ → ℕ → ℕ
number_at base text p zero = 0
number_at base text p (suc k) = number_at base text p k * base + digit_value (byte_at text (p + k))

-- the digits from p on, at most so many: how many, and what they spell
abbrev pub scan_of : ℕ → ℕ → List ℕ → ℕ → Scan
scan_of base most text p = record { value = number_at base text p (digit_run base most text p); digits = digit_run base most text p }
