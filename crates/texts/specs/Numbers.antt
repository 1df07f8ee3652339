-- Numbers in decimal, read and written, and words in hexadecimal. Definitions only.
use Rattle.std.specs.Prelude.{ℕ, zero, suc, ◌+◌, ◌/◌, ◌<◌, ◌≡◌, cond, ◌&&◌, Option, Some, None, List, leb, ltb, length, drop}
use Rattle.io.specs.Digits.{last_digits}
use Rattle.texts.specs.declared.Number.{Number}
use Rattle.texts.specs.Digits.{digit_run, number_at}

-- one to so many decimal digits from p on, and no digit after them: what they spell, and the place after them
unfoldable pub number_from : ℕ → List ℕ → ℕ → Option Number
number_from most text p =
    let k = digit_run 10 (most + 1) text p in
    cond (ltb 0 k && leb k most) (Some (record { value = number_at 10 text p k; end = p + k })) None

-- how many decimal digits n has, up to d + 1
unfoldable pub places : ℕ → ℕ → ℕ
places zero n = 1
places (suc d) n = cond (ltb n 10) 1 (suc (places d (n / 10)))

-- n in decimal, with no zero in front; every u64 has at most 20 digits
unfoldable pub decimal_text : ℕ → List ℕ
decimal_text n = last_digits 10 (places 19 n) n

-- of 20 bytes, those from start on are n in decimal
pub record Spelled (n : ℕ) (l : List ℕ) (start : ℕ) : Type 0 where
  pub size : length l ≡ 20
  pub inside : start < 20
  pub text : drop start l ≡ decimal_text n

-- a word of 64 bits in its 16 lowercase hex digits
unfoldable pub hex_text : ℕ → List ℕ
hex_text w = last_digits 16 16 w
