-- Of the contracts of the Matrix Market exports, over any record: a call that is refused writes nothing, what a buffer held before has no effect; and of both
-- together: what was written and is read again is the matrix, a text as the writer writes that was read and is written again is that text. Assumes nothing.
use Prim.Native.Nat.{ℕ, ◌*◌, ◌<◌}
use mathlib.Core.Path.{◌≡◌, refl, sym, ap, ◌∙◌}
use mathlib.Core.Bool.{true, false}
use mathlib.Core.List.{List}
use native.Mathlib.Omega.{arith}
use lib.Dec.{T}
use lib.ListN.{length, get_or, take}
use lib.Ieee.{Float, binary64, fits}
use borrow.Fn.Kinds.{Dens, Out, res_t, ended_of}
use contract.Lifetimes.{Lfts}
use denote.Triple.Clauses.{Lasts, at_exit}
use Rattle.real.specs.Operations as float
use Rattle.algebra.specs.Outcome.{Outcome, value, refused, number_of}
use Rattle.market.specs.Answers.{Left, answered}
use Rattle.market.specs.Format.{Market}
use Rattle.market.specs.Read.{read_left}
use Rattle.market.specs.Write.{write_text, page, write_left}
use Rattle.market.specs.Entries.{matrix_of}
use Rattle.market.proofs.Refusals.{Numbered}
use Rattle.market.proofs.Buffers.{Kept, Alike, read_numbered, read_kept, read_alike, write_numbered, write_kept, write_alike}
use Rattle.market.proofs.ReadsFormat.{market_read, tidy_market}
use Rattle.market.proofs.RoundTrip.{plain, told_length, round_trip}
use Rattle.market.proofs.WriteBack.{write_back}
use Rattle.exports.specs.Numbered.{count_of, left_numbered}
use Rattle.exports.proofs.matrix_market.evindrast_market_read as read
use Rattle.exports.proofs.matrix_market.evindrast_market_write as write
use Rattle.exports.proofs.matrix_market.evindrast_hyperdual_market_read as hyper-read
use Rattle.exports.proofs.matrix_market.evindrast_hyperdual_market_write as hyper-write

-- the promises, at w floats a record
abbrev ReadPromise : ℕ → Out 3 read.Kinds.ps read.Kinds.r
ReadPromise w κs a x s = (x, (s.1.1.0.now, s.1.0.now)) ≡ left_numbered a.1.1.0.now (read_left w a.0.now a.1.0.now)

abbrev WritePromise : ℕ → Out 3 write.Kinds.ps write.Kinds.r
WritePromise w κs a x s = (x, (s.1.1.1.0.now, s.1.1.0.now)) ≡ left_numbered a.1.1.1.0.now (write_left w a.0 a.1.0.now a.1.1.0.now)

-- ---- one call, and two of the same
module _ (reads : Out 3 read.Kinds.ps read.Kinds.r) where
  -- a call of the reader that is refused leaves n and the floats as they were
  abbrev pub ReadNothingWritten : Type 0
  ReadNothingWritten =
      (κs : Lfts 3) (a : Dens κs read.Kinds.ps) (x : (res_t read.Kinds.r κs).Denot) (v : Lasts (ended_of 3 read.Kinds.ps read.Kinds.r) κs a) →
      reads κs a x (at_exit (ended_of 3 read.Kinds.ps read.Kinds.r) κs a v) → (x ≡ 0 → ⊥) → (v.1.1.0 ≡ a.1.1.0.now) × (v.1.0 ≡ a.1.0.now)

  -- two calls with the same text and as many floats, whatever those held: the same number and, where it is 0, the same n and the same floats
  abbrev pub ReadPreviousContents : Type 0
  ReadPreviousContents =
      (κs κs' : Lfts 3) (a : Dens κs read.Kinds.ps) (a' : Dens κs' read.Kinds.ps) (x : (res_t read.Kinds.r κs).Denot) (x' : (res_t read.Kinds.r κs').Denot)
      (v : Lasts (ended_of 3 read.Kinds.ps read.Kinds.r) κs a) (v' : Lasts (ended_of 3 read.Kinds.ps read.Kinds.r) κs' a') →
      reads κs a x (at_exit (ended_of 3 read.Kinds.ps read.Kinds.r) κs a v) → reads κs' a' x' (at_exit (ended_of 3 read.Kinds.ps read.Kinds.r) κs' a' v') →
      a.0.now ≡ a'.0.now → length a.1.0.now ≡ length a'.1.0.now → (x ≡ x') × (x ≡ 0 → (v.1.1.0 ≡ v'.1.1.0) × (v.1.0 ≡ v'.1.0))

module _ (writes : Out 3 write.Kinds.ps write.Kinds.r) where
  -- a call of the writer that is refused leaves the length and the bytes as they were
  abbrev pub WriteNothingWritten : Type 0
  WriteNothingWritten =
      (κs : Lfts 3) (a : Dens κs write.Kinds.ps) (x : (res_t write.Kinds.r κs).Denot) (v : Lasts (ended_of 3 write.Kinds.ps write.Kinds.r) κs a) →
      writes κs a x (at_exit (ended_of 3 write.Kinds.ps write.Kinds.r) κs a v) → (x ≡ 0 → ⊥) → (v.1.1.1.0 ≡ a.1.1.1.0.now) × (v.1.1.0 ≡ a.1.1.0.now)

  -- two calls with the same matrix and as many bytes, whatever those held: the same number and, where it is 0, the same length and the same bytes
  abbrev pub WritePreviousContents : Type 0
  WritePreviousContents =
      (κs κs' : Lfts 3) (a : Dens κs write.Kinds.ps) (a' : Dens κs' write.Kinds.ps) (x : (res_t write.Kinds.r κs).Denot) (x' : (res_t write.Kinds.r κs').Denot)
      (v : Lasts (ended_of 3 write.Kinds.ps write.Kinds.r) κs a) (v' : Lasts (ended_of 3 write.Kinds.ps write.Kinds.r) κs' a') →
      writes κs a x (at_exit (ended_of 3 write.Kinds.ps write.Kinds.r) κs a v) → writes κs' a' x' (at_exit (ended_of 3 write.Kinds.ps write.Kinds.r) κs' a' v') →
      a.0 ≡ a'.0 → a.1.0.now ≡ a'.1.0.now → length a.1.1.0.now ≡ length a'.1.1.0.now →
      (x ≡ x') × (x ≡ 0 → (v.1.1.1.0 ≡ v'.1.1.1.0) × (v.1.1.0 ≡ v'.1.1.0))

-- of what crosses, whatever was lent to be written: where the call is refused, the count and the buffer are as they were
nothing_written : {A : Type 0} (before x after : ℕ) (buffer lent : List A) (l : Left A) → Kept l lent → (x, (after, buffer)) ≡ left_numbered before l → (x ≡ 0 → ⊥) → (after ≡ before) × (buffer ≡ lent)
nothing_written {A} before x after buffer lent l kept p other =
    let refusal = kept (λ e. other (ap (λ (t : ℕ × (ℕ × List A)). t.0) p ∙ e)) in
    let e = p ∙ ap (left_numbered before) refusal.1 in
    (ap (λ (t : ℕ × (ℕ × List A)). t.1.0) e, ap (λ (t : ℕ × (ℕ × List A)). t.1.1) e)

-- the count is the same, whatever stood there, where the call is done
count_same : (before before' : ℕ) (o : Outcome ℕ) → Numbered o → number_of o ≡ 0 → count_of before o ≡ count_of before' o
count_same before before' (value m) h e = refl
count_same before before' (refused number) h e = absurd (omega arith)

-- and what two calls that are alike leave crosses alike
same_left : {A : Type 0} (before before' x x' after after' : ℕ) (buffer buffer' : List A) (l l' : Left A) → Numbered l.answer → Alike l l' → (x, (after, buffer)) ≡ left_numbered before l → (x', (after', buffer')) ≡ left_numbered before' l'
    → (x ≡ x') × (x ≡ 0 → (after ≡ after') × (buffer ≡ buffer'))
same_left {A} before before' x x' after after' buffer buffer' l l' numbered alike p p' =
    let number = ap (λ (t : ℕ × (ℕ × List A)). t.0) p in (
      number ∙ ap number_of alike.answers ∙ sym (ap (λ (t : ℕ × (ℕ × List A)). t.0) p'),
      λ done. (
        ap (λ (t : ℕ × (ℕ × List A)). t.1.0) p ∙ count_same before before' l.answer numbered (sym number ∙ done) ∙ ap (count_of before') alike.answers ∙ sym (ap (λ (t : ℕ × (ℕ × List A)). t.1.0) p'),
        ap (λ (t : ℕ × (ℕ × List A)). t.1.1) p ∙ alike.buffers (sym number ∙ done) ∙ sym (ap (λ (t : ℕ × (ℕ × List A)). t.1.1) p'),
      ),
    )

nothing_read_by : (w : ℕ) → ReadNothingWritten (ReadPromise w)
nothing_read_by w κs a x v p other = nothing_written a.1.1.0.now x _ _ a.1.0.now (read_left w a.0.now a.1.0.now) (read_kept w a.0.now a.1.0.now) p other

nothing_written_by : (w : ℕ) → WriteNothingWritten (WritePromise w)
nothing_written_by w κs a x v p other =
    let lent = a.1.1.0.now in
    nothing_written a.1.1.1.0.now x _ _ lent (write_left w a.0 a.1.0.now lent) (write_kept w a.0 a.1.0.now lent) p other

previous_read_by : (w : ℕ) → ReadPreviousContents (ReadPromise w)
previous_read_by w κs κs' a a' x x' v v' p p' text long =
    let first = read_left w a.0.now a.1.0.now in
    let second = ap (λ (t : List ℕ). read_left w t a'.1.0.now) text in
    same_left a.1.1.0.now a'.1.1.0.now x x' _ _ _ _ first (read_left w a.0.now a'.1.0.now) (read_numbered w a.0.now a.1.0.now)
    (read_alike w a.0.now a.1.0.now a'.1.0.now long) p (p' ∙ ap (left_numbered a'.1.1.0.now) (sym second))

previous_written_by : (w : ℕ) → WritePreviousContents (WritePromise w)
previous_written_by w κs κs' a a' x x' v v' p p' size matrix long =
    let lent = a.1.1.0.now in
    let lent' = a'.1.1.0.now in
    let second : write_left w a.0 a.1.0.now lent' ≡ write_left w a'.0 a'.1.0.now lent' = (λ i. write_left w (size i) (matrix i) lent') in
    same_left a.1.1.1.0.now a'.1.1.1.0.now x x' _ _ _ _ (write_left w a.0 a.1.0.now lent) (write_left w a.0 a.1.0.now lent') (write_numbered w a.0 a.1.0.now lent)
    (write_alike w a.0 a.1.0.now lent lent' long) p (p' ∙ ap (left_numbered a'.1.1.1.0.now) (sym second))

pub market_read_nothing_written : ReadNothingWritten read.Reads.Post
market_read_nothing_written = nothing_read_by 2

pub hyper_market_read_nothing_written : ReadNothingWritten hyper-read.Reads.Post
hyper_market_read_nothing_written = nothing_read_by 4

pub market_write_nothing_written : WriteNothingWritten write.Reads.Post
market_write_nothing_written = nothing_written_by 2

pub hyper_market_write_nothing_written : WriteNothingWritten hyper-write.Reads.Post
hyper_market_write_nothing_written = nothing_written_by 4

pub market_read_previous_contents : ReadPreviousContents read.Reads.Post
market_read_previous_contents = previous_read_by 2

pub hyper_market_read_previous_contents : ReadPreviousContents hyper-read.Reads.Post
hyper_market_read_previous_contents = previous_read_by 4

pub market_write_previous_contents : WritePreviousContents write.Reads.Post
market_write_previous_contents = previous_written_by 2

pub hyper_market_write_previous_contents : WritePreviousContents hyper-write.Reads.Post
hyper_market_write_previous_contents = previous_written_by 4

-- ---- a call of one and a call of the other
module _ (w : ℕ) (writes : Out 3 write.Kinds.ps write.Kinds.r) (reads : Out 3 read.Kinds.ps read.Kinds.r) where
  -- A call of the writer that is done, and one of the reader with the bytes that it told and n * n * w floats: the reader is done too, with that n, and leaves the
  -- matrix, -0 as +0. Every float that was lent is one of binary64's, as each f64 is.
  abbrev pub RoundTrip : Type 0
  RoundTrip =
      (κs κs' : Lfts 3) (a : Dens κs write.Kinds.ps) (b : Dens κs' read.Kinds.ps) (x : (res_t write.Kinds.r κs).Denot) (y : (res_t read.Kinds.r κs').Denot)
      (v : Lasts (ended_of 3 write.Kinds.ps write.Kinds.r) κs a) (v' : Lasts (ended_of 3 read.Kinds.ps read.Kinds.r) κs' b) →
      writes κs a x (at_exit (ended_of 3 write.Kinds.ps write.Kinds.r) κs a v) → reads κs' b y (at_exit (ended_of 3 read.Kinds.ps read.Kinds.r) κs' b v') →
      ((j : ℕ) → j < a.0 * a.0 * w → T (fits binary64 (get_or a.1.0.now j float.zero))) →
      x ≡ 0 → b.0.now ≡ take v.1.1.1.0 v.1.1.0 → length b.1.0.now ≡ a.0 * a.0 * w →
      (y ≡ 0) × ((v'.1.1.0 ≡ a.0) × (v'.1.0 ≡ plain w a.0 a.1.0.now))

  -- A call of the reader with a text as the writer writes and as many floats as it wants, and one of the writer with what that left and 20,480 bytes: both are done,
  -- and the writer leaves the text, with zeros after it.
  abbrev pub SameText : Type 0
  SameText =
      (κs κs' : Lfts 3) (b : Dens κs read.Kinds.ps) (a : Dens κs' write.Kinds.ps) (y : (res_t read.Kinds.r κs).Denot) (x : (res_t write.Kinds.r κs').Denot)
      (v : Lasts (ended_of 3 read.Kinds.ps read.Kinds.r) κs b) (v' : Lasts (ended_of 3 write.Kinds.ps write.Kinds.r) κs' a) →
      reads κs b y (at_exit (ended_of 3 read.Kinds.ps read.Kinds.r) κs b v) → writes κs' a x (at_exit (ended_of 3 write.Kinds.ps write.Kinds.r) κs' a v') →
      (numbers : List Float) → Market true false a.0 numbers b.0.now → length b.1.0.now ≡ a.0 * a.0 * w → a.1.0.now ≡ v.1.0 → length a.1.1.0.now ≡ page →
      (y ≡ 0) × ((x ≡ 0) × (answered (value v'.1.1.1.0) v'.1.1.0 ≡ write_text b.0.now))

round_trip_by : (w : ℕ) → 0 < w → RoundTrip w (WritePromise w) (ReadPromise w)
round_trip_by w positive κs κs' a b x y v v' p q machine done given room =
    let n = a.0 in
    let matrix = a.1.0.now in
    let left = write_left w n matrix a.1.1.0.now in
    let out = b.1.0.now in
    let before = a.1.1.1.0.now in
    let told = told_length w n matrix a.1.1.0.now (sym (ap (λ (t : ℕ × (ℕ × List ℕ)). t.0) p) ∙ done) in
    let long = ap (λ (t : ℕ × (ℕ × List ℕ)). t.1.0) p ∙ ap (λ (l : Left ℕ). count_of before l.answer) told.1 in
    let text = ap (λ (t : ℕ × (ℕ × List ℕ)). t.1.1) p in
    let read_again = ap (λ (t : List ℕ). read_left w t out) (given ∙ (λ i. take (long i) (text i))) ∙ round_trip w n matrix a.1.1.0.now left.buffer told.0 out positive machine told.1 room in
    let e = q ∙ ap (left_numbered b.1.1.0.now) read_again in
    (ap (λ (t : ℕ × (ℕ × List Float)). t.0) e, (ap (λ (t : ℕ × (ℕ × List Float)). t.1.0) e, ap (λ (t : ℕ × (ℕ × List Float)). t.1.1) e))

same_text_by : (w : ℕ) → 0 < w → SameText w (WritePromise w) (ReadPromise w)
unfolding write_text
same_text_by w positive κs κs' b a y x v v' q p numbers market room given lent =
    let n = a.0 in
    let text = b.0.now in
    let matrix = matrix_of w false n numbers in
    let e = q ∙ ap (left_numbered b.1.1.0.now) (market_read w false n numbers text (tidy_market false n numbers text market) b.1.0.now room) in
    let left = ap (λ (t : ℕ × (ℕ × List Float)). t.1.1) e in
    let f = p ∙ ap (left_numbered a.1.1.1.0.now) (ap (λ (l : List Float). write_left w n l a.1.1.0.now) (given ∙ left) ∙ write_back w n numbers text positive market a.1.1.0.now lent) in (
      ap (λ (t : ℕ × (ℕ × List Float)). t.0) e,
      (
        ap (λ (t : ℕ × (ℕ × List ℕ)). t.0) f,
        λ i. answered (value (f i).1.0) (f i).1.1,
      ),
    )

pub market_round_trip : RoundTrip 2 write.Reads.Post read.Reads.Post
market_round_trip = round_trip_by 2 (omega arith)

pub hyper_market_round_trip : RoundTrip 4 hyper-write.Reads.Post hyper-read.Reads.Post
hyper_market_round_trip = round_trip_by 4 (omega arith)

pub market_same_text : SameText 2 write.Reads.Post read.Reads.Post
market_same_text = same_text_by 2 (omega arith)

pub hyper_market_same_text : SameText 4 hyper-write.Reads.Post hyper-read.Reads.Post
hyper_market_same_text = same_text_by 4 (omega arith)
