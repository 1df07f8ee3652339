-- What the reader and the writer answer and leave, compared with the numbers, words and bytes of a file. Definitions only.
use Rattle.std.specs.Prelude.{ℕ, Bool, true, cond, ◌&&◌, List, eqb, length, replicate, take, drop, Float, Result, Ok, Err}
use Rattle.algebra.specs.Outcome.{Outcome, value, refused, number_of}
use Rattle.replay.specs.Same.{same_numbers}
use Rattle.replay_matrices.specs.Cases.{same_floats}
use Rattle.replay.specs.declared.Cut.{Cut}
use Rattle.replay_market.specs.declared.compare.Recorded.{Recorded}
use Rattle.replay_market.specs.declared.over.Width.{Width}
use Rattle.replay_market.specs.declared.over.Width.TheVariants.{Dual, HyperDual}

-- the records that have so many floats: of two numbers alone
abbrev pub width_at : ℕ → Result Width Cut
width_at floats = cond (eqb floats 2) (Ok Dual) (cond (eqb floats 4) (Ok HyperDual) (Err (record {})))

-- the floats of a record
abbrev pub width_of : Width → ℕ
width_of Dual = 2
width_of HyperDual = 4

-- what every lent float has for a word before a call: that of 1.5
abbrev pub word_before : ℕ
word_before = 0x3ff8000000000000

-- what every lent byte is before a call
abbrev pub byte_before : ℕ
byte_before = 0xff

-- what stands beside the number: n or the length of the text, 0 where the call is refused
abbrev pub count_in : Outcome ℕ → ℕ
count_in (value count) = count
count_in (refused number) = 0

-- the number and what stands beside it
abbrev pub recorded_of : Outcome ℕ → Recorded
recorded_of answer = record { number = number_of answer; count = count_in answer }

-- the recorded number, and what is recorded beside it
unfoldable pub same_answer : Recorded → Outcome ℕ → Bool
same_answer wanted answer = eqb wanted.number (number_of answer) && eqb wanted.count (count_in answer)

-- the number recorded of the size and, where the reader was done, the n recorded of the reader
unfoldable pub same_size : Recorded → ℕ → Outcome ℕ → Bool
same_size wanted size_wanted size = eqb size_wanted (number_of size) && cond (eqb wanted.number 0) (eqb wanted.count (count_in size)) true

-- every float has the word
abbrev pub full_floats : ℕ → List Float → Bool
full_floats word floats = same_floats (replicate (length floats) word) floats

-- every number is the one
abbrev pub full_numbers : ℕ → List ℕ → Bool
full_numbers number l = same_numbers (replicate (length l) number) l

-- the text, and zeros after it
unfoldable pub same_page : List ℕ → List ℕ → Bool
same_page text bytes = same_numbers text (take (length text) bytes) && full_numbers 0 (drop (length text) bytes)

-- the reader's answer and the size's are the recorded ones, and the lent floats too, or as they were where a refusal is recorded
unfoldable pub same_read : Recorded → ℕ → List ℕ → Outcome ℕ → Outcome ℕ → List Float → Bool
same_read wanted size_wanted words answer size floats =
    same_answer wanted answer && (same_size wanted size_wanted size &&
    cond (eqb wanted.number 0) (same_floats words floats) (full_floats word_before floats))

-- the writer's answer is the recorded one, and the lent bytes are the recorded text with zeros after it, or as they were where a refusal is recorded
unfoldable pub same_write : Recorded → List ℕ → Outcome ℕ → List ℕ → Bool
same_write wanted text answer bytes = same_answer wanted answer && cond (eqb wanted.number 0) (same_page text bytes) (full_numbers byte_before bytes)
