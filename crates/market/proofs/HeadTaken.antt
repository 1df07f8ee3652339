-- Comment lines and a size line that the reader takes are lines of the format. Assumes nothing.
use Prim.Native.Nat.{ℕ, zero, suc, ◌≤◌, ◌<◌}
use mathlib.Core.Path.{◌≡◌, refl, sym, ap, ◌∙◌}
use mathlib.Core.Bool.{Bool, true, false, cond, not, ◌&&◌}
use mathlib.Core.List.{List, [], ◌∷◌, ◌++◌, append_assoc}
use native.Mathlib.Omega.{arith}
use lib.Dec.{eqb, ltb}
use lib.ListN.{length, drop}
use borrow.Author.Tests.{eqb-true, eqb-false, ltb-false}
use Rattle.refusals.specs.Largest as largest
use Rattle.refusals.specs.Number as refusal
use Rattle.algebra.specs.Outcome.{value, refused}
use Rattle.texts.specs.Bytes as byte
use Rattle.texts.specs.Digits.{byte_at, is_digit}
use Rattle.texts.specs.Whole.{worth, past, front}
use Rattle.texts.proofs.WholeNumbers.{front_worth}
use Rattle.texts.proofs.Newline.{Clear, text_clear}
use Rattle.market.specs.Format.{Digits, Comments}
use Rattle.market.specs.Format.Comments.{none as uncommented, comment}
use Rattle.market.specs.Head.{Opened, opened, comments, squared, columns_line, size_line}
use Rattle.market.proofs.Fronts.{taken, spared, number_digits_lem, number_split}

-- ---- comment lines: what the reader passes, from outside a comment or from inside one, before it comes to r
pub record Passed (inside : Bool) (l r : List ℕ) : Type 0 where
  pub line : List ℕ
  pub lines : List ℕ
  pub clear : Clear line (length line)
  pub commented : Comments lines
  pub same : l ≡ cond inside (line ++ (byte.newline ∷ (lines ++ r))) (lines ++ r)

module _ (b : ℕ) (l r : List ℕ) where
  passed_newline : b ≡ byte.newline → Passed false l r → Passed true (b ∷ l) r
  passed_newline e p = record { line = []; lines = p.lines; clear = λ j h. absurd (omega arith); commented = p.commented; same = λ i. e i ∷ p.same i }

  passed_byte : (b ≡ byte.newline → ⊥) → Passed true l r → Passed true (b ∷ l) r
  passed_byte e p = record { line = b ∷ p.line; lines = p.lines; clear = clear; commented = p.commented; same = ap (λ (m : List ℕ). b ∷ m) p.same }
    where
      clear : (j : ℕ) → j < length (b ∷ p.line) → byte_at (b ∷ p.line) j ≡ byte.newline → ⊥
      clear zero h = e
      clear (suc j) h = p.clear j (omega arith)

  passed_percent : b ≡ byte.percent → Passed true l r → Passed false (b ∷ l) r
  passed_percent e p = record {
    line = [];
    lines = byte.percent ∷ (p.line ++ (byte.newline ∷ p.lines));
    clear = λ j h. absurd (omega arith);
    commented = comment p.line p.lines (text_clear p.line p.clear) p.commented;
    same = (λ i. e i ∷ p.same i) ∙ ap (λ (m : List ℕ). byte.percent ∷ m) (sym (append_assoc p.line (byte.newline ∷ p.lines) r));
  }

  passed_none : b ∷ l ≡ r → Passed false (b ∷ l) r
  passed_none e = record { line = []; lines = []; clear = λ j h. absurd (omega arith); commented = uncommented; same = e }

pub comments_split : (inside : Bool) (l r : List ℕ) → comments inside l ≡ r → 0 < length r → Passed inside l r
unfolding comments
comments_split inside [] r e some = absurd (let z : 0 ≡ length r = ap length e in omega arith)
comments_split true (b ∷ l) r e some = by (eqb b byte.newline) refl e (λ t q. comments_split t l r q some)
  where
    by : (t : Bool) → eqb b byte.newline ≡ t → comments (not t) l ≡ r → ((t : Bool) → comments t l ≡ r → Passed t l r) → Passed true (b ∷ l) r
    by true q h more = passed_newline b l r (eqb-true b byte.newline q) (more false h)
    by false q h more = passed_byte b l r (eqb-false b byte.newline q) (more true h)
comments_split false (b ∷ l) r e some = by (eqb b byte.percent) refl e (λ q. comments_split true l r q some)
  where
    by : (t : Bool) → eqb b byte.percent ≡ t → cond t (comments (not (eqb b byte.newline)) l) (b ∷ l) ≡ r → (comments true l ≡ r → Passed true l r) → Passed false (b ∷ l) r
    by true q h more = let p : b ≡ byte.percent = eqb-true b byte.percent q in passed_percent b l r p (more (ap (λ (x : ℕ). comments (not (eqb x byte.newline)) l) (sym p) ∙ h))
    by false q h more = passed_none b l r h

-- ---- the size line: two numbers, both the n of what it opens
pub record Sized (s : Bool) (l : List ℕ) (o : Opened) : Type 0 where
  pub rows : List ℕ
  pub columns : List ℕ
  pub lines : l ≡ rows ++ (byte.space ∷ (columns ++ (byte.newline ∷ o.rest)))
  pub row_digits : Digits rows
  pub column_digits : Digits columns
  pub height : worth 0 rows ≡ o.n
  pub breadth : worth 0 columns ≡ o.n
  pub few : o.n ≤ largest.n
  pub kind : s ≡ o.symmetric

squared_same : (s : Bool) (rows columns : ℕ) (rest : List ℕ) (o : Opened) → squared s rows columns rest ≡ value o → (rows ≡ columns) × (rows ≤ largest.n) × (opened rows s rest ≡ o)
unfolding squared
squared_same s rows columns rest o e =
    let a = taken refusal.not_square o (eqb rows columns) (cond (ltb largest.n rows) (refused refusal.too_large) (value (opened rows s rest))) e in
    let b = spared refusal.too_large o (ltb largest.n rows) (value (opened rows s rest)) a.1 in
    let q : value (opened rows s rest) ≡ value o = b.1 in
    (eqb-true rows columns a.0, ltb-false largest.n rows b.0, cc)

pub size_split : (s : Bool) (l : List ℕ) (o : Opened) → size_line s l ≡ value o → Sized s l o
unfolding size_line columns_line
size_split s l o e =
    let m = drop 1 (past l) in
    let r = drop 1 (past m) in
    let a = taken refusal.unreadable_market o (is_digit 10 (byte_at l 0) && eqb (byte_at (past l) 0) byte.space) (columns_line s (worth 0 l) m) e in
    let b = taken refusal.unreadable_market o (is_digit 10 (byte_at m 0) && eqb (byte_at (past m) 0) byte.newline) (squared s (worth 0 l) (worth 0 m) r) a.1 in
    let c = squared_same s (worth 0 l) (worth 0 m) r o b.1 in
    let height : worth 0 l ≡ o.n = ap (λ (p : Opened). p.n) c.2 in
    record {
      rows = front l;
      columns = front m;
      lines =
          number_split l byte.space (omega arith) a.0
          ∙ ap (λ (t : List ℕ). front l ++ (byte.space ∷ t)) (number_split m byte.newline (omega arith) b.0)
          ∙ ap (λ (p : Opened). front l ++ (byte.space ∷ (front m ++ (byte.newline ∷ p.rest)))) c.2;
      row_digits = number_digits_lem l byte.space (omega arith) a.0;
      column_digits = number_digits_lem m byte.newline (omega arith) b.0;
      height = front_worth l 0 ∙ height;
      breadth = front_worth m 0 ∙ sym c.0 ∙ height;
      few = omega (arith, c.1);
      kind = ap (λ (p : Opened). p.symmetric) c.2;
    }
