-- What a refused call leaves, and what a lent buffer held before: by the cases of each definition. Assumes nothing.
use Prim.Native.Nat.{ℕ, ◌*◌}
use mathlib.Core.Path.{◌≡◌, refl, subst}
use mathlib.Core.Bool.{Bool, true, false, cond, ◌&&◌}
use mathlib.Core.List.{List}
use native.Mathlib.Omega.{arith}
use lib.Dec.{ltb, eqb}
use lib.ListN.{length}
use lib.Ieee.{Float}
use Rattle.refusals.specs.Largest as largest
use Rattle.refusals.specs.Number as refusal
use Rattle.algebra.specs.Outcome.{Outcome, value, refused, number_of}
use Rattle.market.specs.Answers.{Left, answered}
use Rattle.market.specs.Format.{count_of}
use Rattle.market.specs.Head.{Opened, head_of}
use Rattle.market.specs.Entries.{numbers_of}
use Rattle.market.specs.Read.{read_numbers, read_body, read_opened, read_left}
use Rattle.market.specs.Text.{text_of, is_writable}
use Rattle.market.specs.Write.{page, write_text, write_left}
use Rattle.market.proofs.Refusals.{Numbered, head_numbered, numbers_numbered}

-- a call that has another number than 0 was refused by a number and left the buffer as it was
abbrev pub Kept : {A : Type 0} → Left A → List A → Type 0
Kept left before = (number_of left.answer ≡ 0 → ⊥) → (number : ℕ) × (left ≡ answered (refused number) before)

-- two calls answer the same, and where they are done leave the same
pub record Alike {A : Type 0} (left left' : Left A) : Type 0 where
  pub answers : left.answer ≡ left'.answer
  pub buffers : number_of left.answer ≡ 0 → left.buffer ≡ left'.buffer

module _ (w : ℕ) (text : List ℕ) (out : List Float) where
  kept_numbers : (symmetric : Bool) (n : ℕ) (r : Outcome (List Float)) → Kept (read_numbers w out symmetric n r) out
  kept_numbers symmetric n (value l) other = absurd (other refl)
  kept_numbers symmetric n (refused number) other = (number, refl)

  kept_body : (symmetric : Bool) (n : ℕ) (rest : List ℕ) (t : Bool) → Kept (cond t (read_numbers w out symmetric n (numbers_of (count_of symmetric n) rest)) (answered (refused refusal.wrong_length) out)) out
  kept_body symmetric n rest true other = kept_numbers symmetric n (numbers_of (count_of symmetric n) rest) other
  kept_body symmetric n rest false other = (refusal.wrong_length, refl)

  kept_opened : (r : Outcome Opened) → Kept (read_opened w out r) out
  unfolding read_body
  kept_opened (value o) other = kept_body o.symmetric o.n o.rest (eqb (length out) (o.n * o.n * w)) other
  kept_opened (refused number) other = (number, refl)

  -- no refusal of the reader has the number 0
  numbered_numbers : (symmetric : Bool) (n : ℕ) (r : Outcome (List Float)) → Numbered r → Numbered (read_numbers w out symmetric n r).answer
  numbered_numbers symmetric n (value l) h = tt
  numbered_numbers symmetric n (refused number) h = h

  numbered_body : (symmetric : Bool) (n : ℕ) (rest : List ℕ) (t : Bool) → Numbered (cond t (read_numbers w out symmetric n (numbers_of (count_of symmetric n) rest)) (answered (refused refusal.wrong_length) out)).answer
  numbered_body symmetric n rest true = numbered_numbers symmetric n (numbers_of (count_of symmetric n) rest) (numbers_numbered (count_of symmetric n) rest)
  numbered_body symmetric n rest false = omega arith

  numbered_opened : (r : Outcome Opened) → Numbered r → Numbered (read_opened w out r).answer
  unfolding read_body
  numbered_opened (value o) h = numbered_body o.symmetric o.n o.rest (eqb (length out) (o.n * o.n * w))
  numbered_opened (refused number) h = h

  pub read_numbered : Numbered (read_left w text out).answer
  unfolding read_left
  read_numbered = numbered_opened (head_of text) (head_numbered text)

  -- a reader that is refused writes nothing
  pub read_kept : Kept (read_left w text out) out
  unfolding read_left
  read_kept other = kept_opened (head_of text) other

  -- what the floats held before has no effect
  module _ (out' : List Float) (long : length out ≡ length out') where
    alike_numbers : (symmetric : Bool) (n : ℕ) (r : Outcome (List Float)) → Numbered r → Alike (read_numbers w out symmetric n r) (read_numbers w out' symmetric n r)
    alike_numbers symmetric n (value l) h = record { answers = refl; buffers = λ e. refl }
    alike_numbers symmetric n (refused number) h = record { answers = refl; buffers = λ e. absurd (omega arith) }

    alike_body : (symmetric : Bool) (n : ℕ) (rest : List ℕ) (t : Bool)
        → Alike (cond t (read_numbers w out symmetric n (numbers_of (count_of symmetric n) rest)) (answered (refused refusal.wrong_length) out)) (cond t (read_numbers w out' symmetric n (numbers_of (count_of symmetric n) rest)) (answered (refused refusal.wrong_length) out'))
    alike_body symmetric n rest true = alike_numbers symmetric n (numbers_of (count_of symmetric n) rest) (numbers_numbered (count_of symmetric n) rest)
    alike_body symmetric n rest false = record { answers = refl; buffers = λ e. absurd (omega arith) }

    alike_opened : (r : Outcome Opened) → Numbered r → Alike (read_opened w out r) (read_opened w out' r)
    unfolding read_body
    alike_opened (value o) h =
        subst (λ (k : ℕ). Alike (read_body w out o.symmetric o.n o.rest) (cond (eqb k (o.n * o.n * w)) (read_numbers w out' o.symmetric o.n (numbers_of (count_of o.symmetric o.n) o.rest)) (answered (refused refusal.wrong_length) out')))
        long (alike_body o.symmetric o.n o.rest (eqb (length out) (o.n * o.n * w)))
    alike_opened (refused number) h = record { answers = refl; buffers = λ e. absurd (omega arith) }

    pub read_alike : Alike (read_left w text out) (read_left w text out')
    unfolding read_left
    read_alike = alike_opened (head_of text) (head_numbered text)

module _ (w n : ℕ) (a : List Float) (text : List ℕ) where
  abbrev wrote : Bool → Bool → Bool → List ℕ → Left ℕ
  wrote large lengths can t =
      cond large (answered (refused refusal.too_large) t) (cond lengths (cond can (write_text (text_of w n a)) (answered (refused refusal.unwritable) t)) (answered (refused refusal.wrong_length) t))

  wrote_kept : (large lengths can : Bool) → Kept (wrote large lengths can text) text
  unfolding write_text
  wrote_kept true lengths can other = (refusal.too_large, refl)
  wrote_kept false false can other = (refusal.wrong_length, refl)
  wrote_kept false true false other = (refusal.unwritable, refl)
  wrote_kept false true true other = absurd (other refl)

  wrote_numbered : (large lengths can : Bool) → Numbered (wrote large lengths can text).answer
  unfolding write_text
  wrote_numbered true lengths can = omega arith
  wrote_numbered false false can = omega arith
  wrote_numbered false true false = omega arith
  wrote_numbered false true true = tt

  -- no refusal of the writer has the number 0
  pub write_numbered : Numbered (write_left w n a text).answer
  unfolding write_left
  write_numbered = wrote_numbered (ltb largest.n n) (eqb (length a) (n * n * w) && eqb (length text) page) (is_writable w a)

  -- a writer that is refused writes nothing
  pub write_kept : Kept (write_left w n a text) text
  unfolding write_left
  write_kept other = wrote_kept (ltb largest.n n) (eqb (length a) (n * n * w) && eqb (length text) page) (is_writable w a) other

  -- what the bytes held before has no effect
  module _ (text' : List ℕ) (long : length text ≡ length text') where
    wrote_alike : (large lengths can : Bool) → Alike (wrote large lengths can text) (wrote large lengths can text')
    unfolding write_text
    wrote_alike true lengths can = record { answers = refl; buffers = λ e. absurd (omega arith) }
    wrote_alike false false can = record { answers = refl; buffers = λ e. absurd (omega arith) }
    wrote_alike false true false = record { answers = refl; buffers = λ e. absurd (omega arith) }
    wrote_alike false true true = record { answers = refl; buffers = λ e. refl }

    pub write_alike : Alike (write_left w n a text) (write_left w n a text')
    unfolding write_left
    write_alike =
        subst (λ (k : ℕ). Alike (write_left w n a text) (wrote (ltb largest.n n) (eqb (length a) (n * n * w) && eqb k page) (is_writable w a) text')) long
        (wrote_alike (ltb largest.n n) (eqb (length a) (n * n * w) && eqb (length text) page) (is_writable w a))
