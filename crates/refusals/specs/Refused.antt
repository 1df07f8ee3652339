-- The documents' number of a refusal, and of an answer that may be one. Definitions only.
use Rattle.std.specs.Prelude.{ℕ, Result, Ok, Err}
use Rattle.refusals.specs.Number as refusal
use Rattle.refusals.specs.declared.Refusal.{Refusal}
use Rattle.refusals.specs.declared.Refusal.TheVariants.{TooLarge, WrongLength, Empty, LimitTooLarge, ExponentTooLarge, NotAnOrder, WrongSwaps, Unreadable, UnreadableMarket, NotSquare, WrongEntries, Unwritable}

abbrev pub number : Refusal → ℕ
number TooLarge = refusal.too_large
number WrongLength = refusal.wrong_length
number Empty = refusal.empty
number LimitTooLarge = refusal.limit_too_large
number ExponentTooLarge = refusal.exponent_too_large
number NotAnOrder = refusal.not_an_order
number WrongSwaps = refusal.wrong_swaps
number Unreadable = refusal.unreadable
number UnreadableMarket = refusal.unreadable_market
number NotSquare = refusal.not_square
number WrongEntries = refusal.wrong_entries
number Unwritable = refusal.unwritable

-- 0 where nothing is refused
abbrev pub answer_number : {T : Type 0} → Result T Refusal → ℕ
answer_number (Ok x) = 0
answer_number (Err e) = number e
