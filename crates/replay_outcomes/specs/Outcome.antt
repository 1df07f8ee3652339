-- What comes of a call, and one word of many. Definitions only.
use Rattle.std.specs.Prelude.{ℕ, ◌*◌, ◌/◌, ◌%◌, ◌^◌, Bool, ◌&&◌, List, eqb}
use Rattle.std.specs.List.{fold}
use Rattle.std.specs.Int.Bits.{bit_xor}
use Rattle.replay_outcomes.specs.declared.Outcome.{Outcome}

-- the same number, the same beside it, and the same word of what was lent
unfoldable pub same_outcome : Outcome → Outcome → Bool
same_outcome wanted got = eqb wanted.number got.number && (eqb wanted.beside got.beside && eqb wanted.digest got.digest)

-- a word joins what came before it, which is turned by 33 places
unfoldable pub joined : ℕ → ℕ → ℕ
joined before word = bit_xor (bit_xor (before % 2 ^ 31 * 2 ^ 33) (before / 2 ^ 31)) word

-- so do all of a list, the first first
abbrev pub joined_all : {A : Type 0} → (A → ℕ) → ℕ → List A → ℕ
joined_all f before l = fold (λ so_far x. joined so_far (f x)) before l
