-- Whole numbers at the start of a text, by their value, however long. Definitions only.
use Rattle.std.specs.Prelude.{ℕ, ◌+◌, ◌-◌, ◌*◌, ◌≤◌, ◌<◌, ◌≡◌, true, cond, List, [], ◌∷◌, ltb, length}
use Rattle.texts.specs.declared.whole.Whole.{Whole}
use Rattle.texts.specs.Bytes.{digit_zero}
use Rattle.texts.specs.Digits.{byte_at, is_digit, digit_value}

-- what v and the digits after it spell
unfoldable pub worth : ℕ → List ℕ → ℕ
worth v [] = v
worth v (b ∷ l) = cond (is_digit 10 b) (worth (v * 10 + digit_value b) l) v

-- the text after its digits
unfoldable pub past : List ℕ → List ℕ
past [] = []
past (b ∷ l) = cond (is_digit 10 b) (past l) (b ∷ l)

-- the digits that a text begins with
unfoldable pub front : List ℕ → List ℕ
front [] = []
front (b ∷ l) = cond (is_digit 10 b) (b ∷ front l) []

-- every byte is a digit
abbrev pub AllDigits : List ℕ → Type 0
AllDigits l = (j : ℕ) → j < length l → is_digit 10 (byte_at l j) ≡ true

-- the byte that stands i places before the last; a zero in front of the first
unfoldable pub from_end : List ℕ → ℕ → ℕ
from_end l i = cond (ltb i (length l)) (byte_at l (length l - 1 - i)) digit_zero

-- v stands for the number w: it is w up to the limit, and above the limit where w is
pub record Capped (most v w : ℕ) : Type 0 where
  pub same : v ≤ most → v ≡ w
  pub above : most < v → most < w

-- v with one digit more, or as it is where it is above the limit
pub record Grown (most v digit r : ℕ) : Type 0 where
  pub small : r ≤ most * 10 + 9
  pub more : v ≤ most → r ≡ v * 10 + digit
  pub stays : most < v → r ≡ v

-- what the reader of digits finds: all of them, the text after them, and what stands for their number
pub record Found (most : ℕ) (text : List ℕ) (w : Whole) : Type 0 where
  pub value : Capped most w.value (worth 0 text)
  pub digits : w.digits.now ≡ front text
  pub rest : w.rest.now ≡ past text
