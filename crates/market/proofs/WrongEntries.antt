-- 12 in the entries, exactly where a text ends before them or goes on after them: both ways, entry by entry. Assumes nothing.
use Prim.Native.Nat.{ℕ, zero, suc, ◌+◌, ◌*◌, ◌≤◌, ◌<◌}
use mathlib.Core.Path.{◌≡◌, refl, sym, ap, ◌∙◌, subst}
use mathlib.Core.Bool.{Bool, true, false, cond, ◌&&◌}
use mathlib.Core.List.{List, [], ◌∷◌, ◌++◌, append_assoc, append-nil}
use mathlib.Core.Logic.{◌⊎◌, inl, inr}
use native.Mathlib.Omega.{arith}
use lib.Dec.{eqb, ltb}
use lib.ListN.{length, drop, length-append, get_or-append}
use lib.Ieee.{Float}
use borrow.Author.Tests.{eqb-true, eq-eqb, ltb-false, le-ltb, ne_eqb}
use Rattle.refusals.specs.Largest as largest
use Rattle.refusals.specs.Number as refusal
use Rattle.algebra.specs.Outcome.{Outcome, value, refused, number_of, map_outcome}
use Rattle.texts.specs.Bytes as byte
use Rattle.texts.specs.Digits.{byte_at, is_digit, digit_value}
use Rattle.texts.specs.Whole.{worth, past, front, AllDigits}
use Rattle.texts.proofs.WholeNumbers.{front_past, front_digits}
use Rattle.market.specs.Answers.{Left, answered}
use Rattle.market.specs.Format.{Digits, Entries, CutShort, GoesOn, count_of, sign, signed}
use Rattle.market.specs.Format.Entries.{none, entry}
use Rattle.market.specs.Entries.{Line, line, is_over, magnitude_line, entry_of, entry_then, numbers_of}
use Rattle.market.specs.Head.{Opened, head_of}
use Rattle.market.specs.Read.{read_numbers, read_body, read_opened, read_left}
use Rattle.market.proofs.Decimals.{digits_after, worth_more}
use Rattle.market.proofs.Fronts.{wrong, first_split}
use Rattle.market.proofs.Lines.{digit_other, entry_read}
use Rattle.market.proofs.ReadsFormat.{untidy}
use Rattle.market.proofs.EntriesTaken.{Entered, entry_split, Listed, listed_more}

-- ---- a number that a text ends in
past_all : (p : List ℕ) → AllDigits p → past p ≡ []
unfolding past
past_all [] all = refl
past_all (b ∷ p) all = rw (all 0 (omega arith)) (past_all p (digits_after b p all))

cut_magnitude : (minus : Bool) (p : List ℕ) → AllDigits p → worth 0 p ≤ largest.whole → magnitude_line minus p ≡ refused refusal.wrong_entries
unfolding magnitude_line
cut_magnitude minus p all small = rw (le-ltb largest.whole (worth 0 p) small, past_all p all)

worth_grows : (q : List ℕ) (v : ℕ) → v ≤ worth v q
unfolding worth
worth_grows [] v = omega arith
worth_grows (b ∷ q) v = by (is_digit 10 b) (worth_grows q (v * 10 + digit_value b))
  where
    by : (t : Bool) → v * 10 + digit_value b ≤ worth (v * 10 + digit_value b) q → v ≤ cond t (worth (v * 10 + digit_value b) q) v
    by true more = omega arith
    by false more = omega arith

-- the digits p are the first of a number's
module _ (p q : List ℕ) (all : AllDigits (p ++ q)) (small : worth 0 (p ++ q) ≤ largest.whole) where
  all_front : AllDigits p
  all_front j h = ap (is_digit 10) (sym (get_or-append p q 0 j h)) ∙ all j (omega (arith, length-append p q))

  small_front : worth 0 p ≤ largest.whole
  small_front = let more = worth_more p q 0 all_front in let grows = worth_grows q (worth 0 p) in omega arith

  plain_byte : (l : List ℕ) → AllDigits l → eqb (byte_at l 0) byte.minus ≡ false
  unfolding digit_value
  plain_byte [] d = refl
  plain_byte (b ∷ l) d = digit_other b byte.minus (d 0 (omega arith)) refl

  cut_entry : (minus : Bool) → entry_of (sign minus ++ p) ≡ refused refusal.wrong_entries
  unfolding entry_of
  cut_entry true = cut_magnitude true p all_front small_front
  cut_entry false = rw (plain_byte p all_front) (cut_magnitude false p all_front small_front)

-- ---- two ways to cut one text: the one front goes on with e, or the other does
abbrev Overlap : (a b c d : List ℕ) → Type 0
Overlap a b c d = ((e : List ℕ) × ((a ≡ c ++ e) × (d ≡ e ++ b))) ⊎ ((e : List ℕ) × ((0 < length e) × (c ≡ a ++ e)))

overlap : (a b c d : List ℕ) → a ++ b ≡ c ++ d → Overlap a b c d
overlap a b [] d p = inl (a, (refl, sym p))
overlap [] b (x ∷ c) d p = inr (x ∷ c, (omega arith, refl))
overlap (y ∷ a) b (x ∷ c) d p = by (overlap a b c d (let z : a ++ b ≡ c ++ d = cc in z))
  where
    same : y ≡ x
    same = cc

    by : Overlap a b c d → Overlap (y ∷ a) b (x ∷ c) d
    by (inl (e, (q, r))) = inl (e, ((λ i. same i ∷ q i), r))
    by (inr (e, (some, q))) = inr (e, (some, (λ i. sym same i ∷ q i)))

empty : (l : List ℕ) → length l ≡ 0 → l ≡ []
empty [] h = refl
empty (b ∷ l) h = absurd (omega arith)

-- what begins a line and is not the whole of it is a beginning of its number
front_of : (digits p q : List ℕ) → p ++ q ≡ digits ++ (byte.newline ∷ []) → 0 < length q → (r : List ℕ) × (digits ≡ p ++ r)
front_of digits p q e some = by (overlap p q digits (byte.newline ∷ []) e)
  where
    by : Overlap p q digits (byte.newline ∷ []) → (r : List ℕ) × (digits ≡ p ++ r)
    by (inl (r, (whole, last))) = ([], sym (append-nil p ∙ whole ∙ ap (λ (l : List ℕ). digits ++ l) (empty r (omega (arith, ap length last, length-append r q))) ∙ append-nil digits))
    by (inr (r, (more, q'))) = (r, q')

-- ---- a text that ends too soon is refused 12
module _ (minus : Bool) (digits : List ℕ) (all : Digits digits) (small : worth 0 digits ≤ largest.whole) where
  -- cut in the number, p of its digits there
  cut_number : (p r : List ℕ) → digits ≡ p ++ r → entry_of (sign minus ++ p) ≡ refused refusal.wrong_entries
  cut_number p r e = cut_entry p r (subst AllDigits e all.all) (subst (λ (l : List ℕ). worth 0 l ≤ largest.whole) e small) minus

nothing_read : entry_of [] ≡ refused refusal.wrong_entries
unfolding entry_of magnitude_line worth past
nothing_read = refl

cut_line : (minus : Bool) (digits : List ℕ) → Digits digits → worth 0 digits ≤ largest.whole → (text q : List ℕ) → sign minus ++ (digits ++ (byte.newline ∷ [])) ≡ text ++ q → 0 < length q → entry_of text ≡ refused refusal.wrong_entries
cut_line false digits all small text q e some = let f = front_of digits text q (sym e) some in cut_number false digits all small text f.0 f.1
cut_line true digits all small [] q e some = nothing_read
cut_line true digits all small (b ∷ p) q e some =
    let first : b ≡ byte.minus = cc in
    let rest : p ++ q ≡ digits ++ (byte.newline ∷ []) = cc in
    let f = front_of digits p q rest some in
    ap (λ (x : ℕ). entry_of (x ∷ p)) first ∙ cut_number true digits all small p f.0 f.1

-- the line of an entry, apart from what comes after it
line_shape : (minus : Bool) (digits rest : List ℕ) → sign minus ++ (digits ++ (byte.newline ∷ rest)) ≡ (sign minus ++ (digits ++ (byte.newline ∷ []))) ++ rest
line_shape minus digits rest = sym (append_assoc (sign minus) (digits ++ (byte.newline ∷ [])) rest ∙ ap (λ (l : List ℕ). sign minus ++ l) (append_assoc digits (byte.newline ∷ []) rest))

cut_listed : (text more entries : List ℕ) (numbers : List Float) → Entries false entries numbers → text ++ more ≡ entries → 0 < length more → numbers_of (length numbers) text ≡ refused refusal.wrong_entries
unfolding numbers_of
cut_listed text more entries numbers none e some = absurd (omega (arith, ap length e, length-append text more))
cut_listed text more entries numbers (entry minus digits rest others all small short sure listed) e some =
    by (overlap text more (sign minus ++ (digits ++ (byte.newline ∷ []))) rest (e ∙ line_shape minus digits rest)) (λ r q. cut_listed r more rest others listed q some)
  where
    by : Overlap text more (sign minus ++ (digits ++ (byte.newline ∷ []))) rest → ((r : List ℕ) → r ++ more ≡ rest → numbers_of (length others) r ≡ refused refusal.wrong_entries) → entry_then (numbers_of (length others)) (entry_of text) ≡ refused refusal.wrong_entries
    by (inl (r, (p, q))) again =
        ap (λ (t : List ℕ). entry_then (numbers_of (length others)) (entry_of t)) (p ∙ sym (line_shape minus digits r))
        ∙ ap (entry_then (numbers_of (length others))) (entry_read digits r all small minus)
        ∙ ap (map_outcome (λ (l : List Float). signed minus (worth 0 digits) ∷ l)) (again r (sym q))
    by (inr (q, (left, p))) again = ap (entry_then (numbers_of (length others))) (cut_line minus digits all small text q p left)

pub cut_refused : (k : ℕ) (text : List ℕ) → CutShort k text → numbers_of k text ≡ refused refusal.wrong_entries
cut_refused k text cut = subst (λ (m : ℕ). numbers_of m text ≡ refused refusal.wrong_entries) cut.count (cut_listed text cut.more (text ++ cut.more) cut.numbers cut.listed refl cut.some)

-- ---- and so is one that goes on
on_listed : (entries rest : List ℕ) (numbers : List Float) → Entries false entries numbers → 0 < length rest → numbers_of (length numbers) (entries ++ rest) ≡ refused refusal.wrong_entries
unfolding numbers_of
on_listed entries rest numbers none some = rw (ne_eqb (length rest) 0 (λ e. omega arith))
on_listed entries rest numbers (entry minus digits after others all small short sure listed) some =
    ap (λ (t : List ℕ). entry_then (numbers_of (length others)) (entry_of t)) (append_assoc (sign minus) (digits ++ (byte.newline ∷ after)) rest ∙ ap (λ (l : List ℕ). sign minus ++ l) (append_assoc digits (byte.newline ∷ after) rest))
    ∙ ap (entry_then (numbers_of (length others))) (entry_read digits (after ++ rest) all small minus)
    ∙ ap (map_outcome (λ (l : List Float). signed minus (worth 0 digits) ∷ l)) (on_listed after rest others listed some)

pub on_refused : (k : ℕ) (text : List ℕ) → GoesOn k text → numbers_of k text ≡ refused refusal.wrong_entries
on_refused k text on =
    (λ i. numbers_of (sym on.count i) (on.parts i)) ∙ on_listed on.entries on.rest on.numbers on.listed on.some

-- ---- what is refused 12 ends too soon or goes on
-- what a refusal is not
other_number : {R : Type 0} (number : ℕ) → (number ≡ refusal.wrong_entries → ⊥) → ◌≡◌ {A = Outcome R} (refused number) (refused refusal.wrong_entries) → ⊥
other_number number other e = other (ap number_of e)

some_value : {R : Type 0} (r : R) → ◌≡◌ {A = Outcome R} (value r) (refused refusal.wrong_entries) → ⊥
some_value r e = wrong refusal.wrong_entries r (sym e)

-- so many zeros
zero_lines : ℕ → List ℕ
zero_lines zero = []
zero_lines (suc k) = byte.digit_zero ∷ (byte.newline ∷ zero_lines k)

zero_digits : Digits (byte.digit_zero ∷ [])
unfolding digit_value
zero_digits = record { some = omega arith; all = each }
  where
    each : (j : ℕ) → j < length (byte.digit_zero ∷ []) → is_digit 10 (byte_at (byte.digit_zero ∷ []) j) ≡ true
    each zero h = refl
    each (suc j) h = absurd (omega arith)

zero_small : worth 0 (byte.digit_zero ∷ []) ≤ largest.whole
unfolding worth digit_value
zero_small = omega arith

zeros_listed : (k : ℕ) → (numbers : List Float) × Listed k (zero_lines k) numbers
unfolding zero_lines
zeros_listed zero = ([], record { listed = none; count = refl })
zeros_listed (suc k) =
    let more = zeros_listed k in (
      signed false (worth 0 (byte.digit_zero ∷ [])) ∷ more.0,
      record {
        listed = entry false (byte.digit_zero ∷ []) (zero_lines k) more.0 zero_digits zero_small untidy untidy more.1.listed;
        count = ap suc more.1.count;
      },
    )

-- with a newline after it, and zeros for the other entries, a number that was cut is whole
complete : (k : ℕ) (minus : Bool) (l : List ℕ) → AllDigits l → worth 0 l ≤ largest.whole → CutShort (suc k) (sign minus ++ l)
complete k minus [] all small =
    let zeros = zeros_listed k in record {
      more = byte.digit_zero ∷ (byte.newline ∷ zero_lines k);
      numbers = signed minus (worth 0 (byte.digit_zero ∷ [])) ∷ zeros.0;
      some = omega arith;
      listed =
          subst (λ (t : List ℕ). Entries false t (signed minus (worth 0 (byte.digit_zero ∷ [])) ∷ zeros.0)) (sym (append_assoc (sign minus) [] (byte.digit_zero ∷ (byte.newline ∷ zero_lines k))))
          (entry minus (byte.digit_zero ∷ []) (zero_lines k) zeros.0 zero_digits zero_small untidy untidy zeros.1.listed);
      count = ap suc zeros.1.count;
    }
complete k minus (b ∷ l) all small =
    let zeros = zeros_listed k in record {
      more = byte.newline ∷ zero_lines k;
      numbers = signed minus (worth 0 (b ∷ l)) ∷ zeros.0;
      some = omega arith;
      listed =
          subst (λ (t : List ℕ). Entries false t (signed minus (worth 0 (b ∷ l)) ∷ zeros.0)) (sym (append_assoc (sign minus) (b ∷ l) (byte.newline ∷ zero_lines k)))
          (entry minus (b ∷ l) (zero_lines k) zeros.0 (record { some = omega arith; all = all }) small untidy untidy zeros.1.listed);
      count = ap suc zeros.1.count;
    }

magnitude_cut : (k : ℕ) (minus : Bool) (l : List ℕ) → magnitude_line minus l ≡ refused refusal.wrong_entries → CutShort (suc k) (sign minus ++ l)
unfolding magnitude_line
magnitude_cut k minus l e = by (ltb largest.whole (worth 0 l)) (is_over (past l)) (is_digit 10 (byte_at l 0) && eqb (byte_at (past l) 0) byte.newline) refl refl e
  where
    over : is_over (past l) ≡ true → l ≡ front l
    over h = front_past l ∙ ap (λ (r : List ℕ). front l ++ r) (empty (past l) (eqb-true (length (past l)) 0 h)) ∙ append-nil (front l)

    by : (large ended good : Bool) → ltb largest.whole (worth 0 l) ≡ large → is_over (past l) ≡ ended
        → cond large (refused refusal.unreadable_market) (cond ended (refused refusal.wrong_entries) (cond good (value (line (signed minus (worth 0 l)) (drop 1 (past l)))) (refused refusal.unreadable_market))) ≡ refused refusal.wrong_entries
        → CutShort (suc k) (sign minus ++ l)
    by true ended good p q h = absurd (other_number refusal.unreadable_market (λ z. omega arith) h)
    by false true good p q h = complete k minus l (subst AllDigits (sym (over q)) (front_digits l)) (ltb-false largest.whole (worth 0 l) p)
    by false false true p q h = absurd (some_value (line (signed minus (worth 0 l)) (drop 1 (past l))) h)
    by false false false p q h = absurd (other_number refusal.unreadable_market (λ z. omega arith) h)

entry_cut : (k : ℕ) (l : List ℕ) → entry_of l ≡ refused refusal.wrong_entries → CutShort (suc k) l
unfolding entry_of
entry_cut k l e = by (eqb (byte_at l 0) byte.minus) refl e
  where
    by : (t : Bool) → eqb (byte_at l 0) byte.minus ≡ t → cond t (magnitude_line true (drop 1 l)) (magnitude_line false l) ≡ refused refusal.wrong_entries → CutShort (suc k) l
    by true q h = subst (CutShort (suc k)) (sym (first_split l byte.minus (eqb-true (byte_at l 0) byte.minus q) (omega arith))) (magnitude_cut k true (drop 1 l) h)
    by false q h = magnitude_cut k false l h

-- one entry more in front
module _ (k : ℕ) (l : List ℕ) (x : Line) (entered : Entered l x) where
  longer : (more : List ℕ) → Entered (l ++ more) (line x.number (x.rest ++ more))
  longer more = record {
    minus = entered.minus;
    digits = entered.digits;
    lines =
        ap (λ (t : List ℕ). t ++ more) entered.lines
        ∙ append_assoc (sign entered.minus) (entered.digits ++ (byte.newline ∷ x.rest)) more
        ∙ ap (λ (t : List ℕ). sign entered.minus ++ t) (append_assoc entered.digits (byte.newline ∷ x.rest) more);
    all = entered.all;
    small = entered.small;
    number = entered.number;
  }

  cut_longer : CutShort k x.rest → CutShort (suc k) l
  cut_longer cut =
      let whole = listed_more k (l ++ cut.more) (line x.number (x.rest ++ cut.more)) cut.numbers (longer cut.more) (record { listed = cut.listed; count = cut.count }) in record {
        more = cut.more;
        numbers = x.number ∷ cut.numbers;
        some = cut.some;
        listed = whole.listed;
        count = whole.count;
      }

  on_longer : GoesOn k x.rest → GoesOn (suc k) l
  on_longer on =
      let here = sign entered.minus ++ (entered.digits ++ (byte.newline ∷ on.entries)) in
      let first : Entered here (line x.number on.entries) = record { minus = entered.minus; digits = entered.digits; lines = refl; all = entered.all; small = entered.small; number = entered.number } in
      let whole = listed_more k here (line x.number on.entries) on.numbers first (record { listed = on.listed; count = on.count }) in record {
        entries = here;
        rest = on.rest;
        numbers = x.number ∷ on.numbers;
        parts =
            entered.lines
            ∙ ap (λ (t : List ℕ). sign entered.minus ++ (entered.digits ++ (byte.newline ∷ t))) on.parts
            ∙ sym (append_assoc (sign entered.minus) (entered.digits ++ (byte.newline ∷ on.entries)) on.rest ∙ ap (λ (t : List ℕ). sign entered.minus ++ t) (append_assoc entered.digits (byte.newline ∷ on.entries) on.rest));
        some = on.some;
        listed = whole.listed;
        count = whole.count;
      }

none_wrong : (l : List ℕ) → numbers_of 0 l ≡ refused refusal.wrong_entries → CutShort 0 l ⊎ GoesOn 0 l
unfolding numbers_of
none_wrong [] e = absurd (some_value [] e)
none_wrong (b ∷ l) e = inr (record { entries = []; rest = b ∷ l; numbers = []; parts = refl; some = omega arith; listed = none; count = refl })

pub wrong_entries_lem : (k : ℕ) (l : List ℕ) → numbers_of k l ≡ refused refusal.wrong_entries → CutShort k l ⊎ GoesOn k l
unfolding numbers_of
wrong_entries_lem zero l e = none_wrong l e
wrong_entries_lem (suc k) l e = by (entry_of l) refl e (λ r q. wrong_entries_lem k r q)
  where
    more_by : (x : Line) (o : Outcome (List Float)) → entry_of l ≡ value x → numbers_of k x.rest ≡ o → map_outcome (λ others. x.number ∷ others) o ≡ refused refusal.wrong_entries → (numbers_of k x.rest ≡ refused refusal.wrong_entries → CutShort k x.rest ⊎ GoesOn k x.rest) → CutShort (suc k) l ⊎ GoesOn (suc k) l
    more_by x (value others) p q h more = absurd (some_value (x.number ∷ others) h)
    more_by x (refused number) p q h more = either (more (q ∙ ap refused (ap number_of h)))
      where
        either : CutShort k x.rest ⊎ GoesOn k x.rest → CutShort (suc k) l ⊎ GoesOn (suc k) l
        either (inl cut) = inl (cut_longer k l x (entry_split l x p) cut)
        either (inr on) = inr (on_longer k l x (entry_split l x p) on)

    by : (o : Outcome Line) → entry_of l ≡ o → entry_then (numbers_of k) o ≡ refused refusal.wrong_entries → ((r : List ℕ) → numbers_of k r ≡ refused refusal.wrong_entries → CutShort k r ⊎ GoesOn k r) → CutShort (suc k) l ⊎ GoesOn (suc k) l
    by (value x) p h more = more_by x (numbers_of k x.rest) p refl h (more x.rest)
    by (refused number) p h more = inl (entry_cut k l (p ∙ ap refused (ap number_of h)))

-- ---- of a call of the reader
module _ (w : ℕ) (text : List ℕ) (out : List Float) (o : Opened) (head : head_of text ≡ value o) (room : length out ≡ o.n * o.n * w) where
  abbrev count : ℕ
  count = count_of o.symmetric o.n

  after_head : read_left w text out ≡ read_numbers w out o.symmetric o.n (numbers_of count o.rest)
  unfolding read_left read_body
  after_head = ap (read_opened w out) head ∙ rw (eq-eqb (length out) (o.n * o.n * w) room)

  -- the head being good and the floats as many as wanted: 12 where the entries are cut or the text goes on after them,
  pub read_cut_or_on : CutShort count o.rest ⊎ GoesOn count o.rest → read_left w text out ≡ answered (refused refusal.wrong_entries) out
  read_cut_or_on (inl cut) = after_head ∙ ap (read_numbers w out o.symmetric o.n) (cut_refused count o.rest cut)
  read_cut_or_on (inr on) = after_head ∙ ap (read_numbers w out o.symmetric o.n) (on_refused count o.rest on)

  -- and there alone
  pub read_twelve : (read_left w text out).answer ≡ refused refusal.wrong_entries → CutShort count o.rest ⊎ GoesOn count o.rest
  read_twelve e = wrong_entries_lem count o.rest (by (numbers_of count o.rest) (ap (λ (l : Left Float). l.answer) (sym after_head) ∙ e))
    where
      by : (r : Outcome (List Float)) → (read_numbers w out o.symmetric o.n r).answer ≡ refused refusal.wrong_entries → r ≡ refused refusal.wrong_entries
      by (value numbers) h = absurd (some_value o.n h)
      by (refused number) h = ap refused (ap number_of h)
