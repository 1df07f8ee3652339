-- What a call leaves. Definitions only.
use Rattle.std.specs.Prelude.{ℕ, List}
use Rattle.algebra.specs.Outcome.{Outcome}

-- what a call leaves: the answer, and what it was lent to be written: floats by the reader, bytes by the writer
pub record Left (A : Type 0) : Type 0 where
  pub answer : Outcome ℕ
  pub buffer : List A

abbrev pub answered : {A : Type 0} → Outcome ℕ → List A → Left A
answered r buffer = record { answer = r; buffer = buffer }
