-- A word read byte by byte. Definitions only.
use Rattle.std.specs.Prelude.{ℕ, ◌+◌, ◌*◌, ◌%◌, ◌^◌, Bool, ◌||◌, cond, ltb, eqb, Some, None}
use Rattle.texts.specs.Bytes.{newline, space}
use Rattle.texts.specs.Digits.{digit_value, is_digit}
use Rattle.replay.specs.declared.words.Word.{Word}
use Rattle.replay.specs.declared.words.Seen.{Seen}
use Rattle.replay.specs.declared.words.Seen.TheVariants.{Nothing, Comment, Digits, Ended}

-- a digit joins the word, of which the last 16 digits stay; 17 digits stand for any number above 16
abbrev pub joined : Word → ℕ → Word
joined w d = record { value = w.value % 2 ^ 60 * 16 + d; digits = cond (ltb w.digits 17) (w.digits + 1) 17 }

-- what a word begins with
abbrev pub no_digit : Word
no_digit = record { value = 0; digits = 0 }

-- the byte #
abbrev pub number_sign : ℕ
number_sign = 35

-- what ends a word
abbrev pub is_blank : ℕ → Bool
is_blank b = eqb b space || eqb b newline

-- after a byte that ends no word: a digit joins the word, and any other ends the reading without one
unfoldable pub word_after : Word → ℕ → Seen
word_after w b = cond (is_digit 16 b) (Digits (joined w (digit_value b))) (Ended None)

-- what is seen after one byte more: # begins a comment where no word has begun, and the comment goes on to the line's end
unfoldable pub seen_after : Seen → ℕ → Seen
seen_after Nothing b = cond (is_blank b) Nothing (cond (eqb b number_sign) Comment (word_after no_digit b))
seen_after Comment b = cond (eqb b newline) Nothing Comment
seen_after (Digits w) b = cond (is_blank b) (Ended (Some w)) (word_after w b)
seen_after (Ended w) b = Ended w
