-- Digits of any number, read to their end, and two numbers compared from theirs. Assumes nothing.
use Prim.Native.Nat.{ℕ, zero, suc, ◌+◌, ◌-◌, ◌*◌, ◌<◌, ◌≤◌}
use mathlib.Core.Path.{◌≡◌, refl, sym, ap, ◌∙◌, subst}
use mathlib.Core.Bool.{Bool, true, false, cond, not, ◌&&◌, true≢false}
use mathlib.Core.List.{List, [], ◌∷◌, ◌++◌, append-nil}
use native.Mathlib.Omega.{arith}
use lib.Dec.{leb, ltb, eqb}
use lib.ListN.{length, take, drop, length-drop, drop_of_length-le}
use lib.Seq.{drop-cons, take-suc, take_all, append_snoc}
use borrow.Author.Tests.{leb-true, leb-false, lt-ltb, le-ltb, ltb-true, ltb-false, eq-eqb, ne_eqb, eqb-true}
use Rattle.std.specs.Prelude.{Some, None}
use Rattle.std.specs.List.{list_all, range_with_len}
use Rattle.texts.specs.declared.whole.Whole.{Whole}
use Rattle.texts.specs.Bytes.{digit_zero}
use Rattle.texts.specs.Digits.{byte_at, is_digit, digit_value, digit_of, number_at}
use Rattle.texts.specs.Whole.{worth, past, front, from_end, AllDigits, Capped, Grown, Found}
use Rattle.texts.proofs.Digits.{decimal_digit, digit_was, digit_was_none}

-- ---- the digits that a text begins with, and the text after them
pub front_past : (l : List ℕ) → l ≡ front l ++ past l
unfolding front past
front_past [] = refl
front_past (b ∷ l) = by (is_digit 10 b) (front_past l)
  where
    by : (t : Bool) → l ≡ front l ++ past l → b ∷ l ≡ cond t (b ∷ front l) [] ++ cond t (past l) (b ∷ l)
    by true more = ap (λ (r : List ℕ). b ∷ r) more
    by false more = refl

pub front_worth : (l : List ℕ) (v : ℕ) → worth v (front l) ≡ worth v l
unfolding front worth
front_worth [] v = refl
front_worth (b ∷ l) v = by (is_digit 10 b) refl (front_worth l (v * 10 + digit_value b))
  where
    by : (t : Bool) → is_digit 10 b ≡ t → worth (v * 10 + digit_value b) (front l) ≡ worth (v * 10 + digit_value b) l → worth v (cond t (b ∷ front l) []) ≡ cond t (worth (v * 10 + digit_value b) l) v
    by true e more = rw e more
    by false e more = refl

pub front_digits : (l : List ℕ) → AllDigits (front l)
unfolding front
front_digits [] = λ j h. absurd (omega arith)
front_digits (b ∷ l) = by (is_digit 10 b) refl (front_digits l)
  where
    by : (t : Bool) → is_digit 10 b ≡ t → AllDigits (front l) → AllDigits (cond t (b ∷ front l) [])
    by true e more = each
      where
        each : (j : ℕ) → j < length (b ∷ front l) → is_digit 10 (byte_at (b ∷ front l) j) ≡ true
        each zero h = e
        each (suc j) h = more j (omega arith)
    by false e more = λ j h. absurd (omega arith)

-- there is one if the first byte is a digit
pub front_some : (l : List ℕ) → not (eqb (length (front l)) 0) ≡ is_digit 10 (byte_at l 0)
unfolding front digit_value
front_some [] = refl
front_some (b ∷ l) = by (is_digit 10 b)
  where
    by : (t : Bool) → not (eqb (length (cond t (b ∷ front l) [])) 0) ≡ t
    by true = ap not (ne_eqb (suc (length (front l))) 0 (λ e. omega arith))
    by false = refl

-- ---- what is left of a text from k on, by its first byte
module _ (text : List ℕ) (k : ℕ) (inside : k < length text) where
  module _ (e : is_digit 10 (byte_at text k) ≡ true) where
    pub worth_digit : (v : ℕ) → worth v (drop k text) ≡ worth (v * 10 + digit_value (byte_at text k)) (drop (suc k) text)
    unfolding worth
    worth_digit v = rw (drop-cons text k 0 inside, e)

    past_digit : past (drop k text) ≡ past (drop (suc k) text)
    unfolding past
    past_digit = rw (drop-cons text k 0 inside, e)

    front_digit : front (drop k text) ≡ byte_at text k ∷ front (drop (suc k) text)
    unfolding front
    front_digit = rw (drop-cons text k 0 inside, e)

  module _ (e : is_digit 10 (byte_at text k) ≡ false) where
    worth_other : (v : ℕ) → worth v (drop k text) ≡ v
    unfolding worth
    worth_other v = rw (drop-cons text k 0 inside, e)

    past_other : past (drop k text) ≡ drop k text
    unfolding past
    past_other = ap past (drop-cons text k 0 inside) ∙ ap (λ (t : Bool). cond t (past (drop (suc k) text)) (byte_at text k ∷ drop (suc k) text)) e ∙ sym (drop-cons text k 0 inside)

    front_other : front (drop k text) ≡ []
    unfolding front
    front_other = rw (drop-cons text k 0 inside, e)

-- ---- a number with a digit more, as far as it is kept
capped_more : (most v w d r : ℕ) → Capped most v w → Grown most v d r → Capped most r (w * 10 + d)
capped_more most v w d r c g = by (leb v most) refl
  where
    by : (t : Bool) → leb v most ≡ t → Capped most r (w * 10 + d)
    by true e =
        let h : v ≤ most = leb-true v most e in
        let q : v ≡ w = c.same h in
        let k : r ≡ v * 10 + d = g.more h in
        record { same = λ l. omega arith; above = λ l. omega arith }
    by false e =
        let h : most < v = leb-false v most e in
        let q : most < w = c.above h in
        let k : r ≡ v = g.stays h in
        record { same = λ l. absurd (omega arith); above = λ l. omega arith }

-- ---- what the reader of digits keeps: the first k bytes are digits, which spell a number, and v stands for it
pub record Scanning (most : ℕ) (text : List ℕ) (v k : ℕ) : Type 0 where
  pub small : v ≤ most * 10 + 9
  pub spelled : ℕ
  pub value : Capped most v spelled
  pub worths : worth 0 text ≡ worth spelled (drop k text)
  pub front_so_far : front text ≡ take k text ++ front (drop k text)
  pub rest : past text ≡ past (drop k text)

module _ (most : ℕ) (text : List ℕ) where
  module _ (v k : ℕ) (s : Scanning most text v k) where
    -- a digit d more
    pub scanning_more : (d r : ℕ) → k < length text → Some d ≡ digit_of 10 (byte_at text k) → Grown most v d r → Scanning most text r (k + 1)
    scanning_more d r inside e g =
        let was = digit_was 10 (byte_at text k) d e in
        let digit : is_digit 10 (byte_at text k) ≡ true = lt-ltb (digit_value (byte_at text k)) 10 (omega arith) in
        let one : suc k ≡ k + 1 = omega arith in record {
          small = g.small;
          spelled = s.spelled * 10 + digit_value (byte_at text k);
          value = subst (λ (x : ℕ). Capped most r (s.spelled * 10 + x)) was.0 (capped_more most v s.spelled d r s.value g);
          worths = s.worths ∙ worth_digit text k inside digit s.spelled ∙ ap (λ (i : ℕ). worth (s.spelled * 10 + digit_value (byte_at text k)) (drop i text)) one;
          front_so_far =
              s.front_so_far
              ∙ ap (λ (l : List ℕ). take k text ++ l) (front_digit text k inside digit)
              ∙ sym (append_snoc (take k text) (byte_at text k) (front (drop (suc k) text)))
              ∙ ap (λ (l : List ℕ). l ++ front (drop (suc k) text)) (sym (take-suc text k 0 inside))
              ∙ ap (λ (i : ℕ). take i text ++ front (drop i text)) one;
          rest = s.rest ∙ past_digit text k inside digit ∙ ap (λ (i : ℕ). past (drop i text)) one;
        }

    found : (w : Whole) → w.value ≡ v → w.digits.now ≡ take k text → w.rest.now ≡ drop k text → worth s.spelled (drop k text) ≡ s.spelled → front (drop k text) ≡ [] → past (drop k text) ≡ drop k text → Found most text w
    found w e f g a b c = record {
      value = subst (Capped most w.value) (sym (s.worths ∙ a)) (subst (λ (x : ℕ). Capped most x s.spelled) (sym e) s.value);
      digits = f ∙ sym (s.front_so_far ∙ ap (λ (l : List ℕ). take k text ++ l) b ∙ append-nil (take k text));
      rest = g ∙ sym (s.rest ∙ c);
    }

    -- a byte that is no digit ends them, and so does the end of the text
    pub scanning_stops : (w : Whole) → k < length text → None ≡ digit_of 10 (byte_at text k) → w.value ≡ v → w.digits.now ≡ take k text → w.rest.now ≡ take (length text - k) (drop k text) → Found most text w
    scanning_stops w inside e q f g =
        let other : is_digit 10 (byte_at text k) ≡ false = le-ltb (digit_value (byte_at text k)) 10 (digit_was_none 10 (byte_at text k) e) in
        found w q f (g ∙ take_all (length text - k) (drop k text) (omega (arith, length-drop k text)))
        (worth_other text k inside other s.spelled) (front_other text k inside other) (past_other text k inside other)

    pub scanning_ends : (w : Whole) → length text ≤ k → w.value ≡ v → w.digits.now ≡ text → w.rest.now ≡ [] → Found most text w
    unfolding worth past front
    scanning_ends w h q f g =
        let none : drop k text ≡ [] = drop_of_length-le text h in
        found w q (f ∙ sym (take_all k text h)) (g ∙ sym none) (ap (worth s.spelled) none) (ap front none) (ap past none ∙ sym none)

-- ---- two numbers, compared from their ends
ends : (x y d e : ℕ) → d < 10 → e < 10 → (d ≡ e → ⊥) → x * 10 + d ≡ y * 10 + e → ⊥
ends x y d e hd he n q = n (omega arith)

ends_same : (x y d e : ℕ) → d ≡ e → eqb (x * 10 + d) (y * 10 + e) ≡ eqb x y
ends_same x y d e q = by (eqb x y) refl
  where
    by : (t : Bool) → eqb x y ≡ t → eqb (x * 10 + d) (y * 10 + e) ≡ t
    by true k = let z : x ≡ y = eqb-true x y k in eq-eqb (x * 10 + d) (y * 10 + e) (omega arith)
    by false k = ne_eqb (x * 10 + d) (y * 10 + e) (λ m. let z : x ≡ y = omega arith in true≢false (sym (eq-eqb x y z) ∙ k))

-- what the digits spell but for the last i
abbrev but_last : List ℕ → ℕ → ℕ
but_last l i = number_at 10 l 0 (length l - i)

none_left : (l : List ℕ) (i : ℕ) → length l ≤ i → but_last l i ≡ 0
unfolding number_at
none_left l i h = ap (number_at 10 l 0) (let z : length l - i ≡ 0 = omega arith in z)

module _ (l : List ℕ) (digits : AllDigits l) where
  -- what the first k of them spell
  first_worth : (k : ℕ) → k ≤ length l → worth 0 l ≡ worth (number_at 10 l 0 k) (drop k l)
  unfolding number_at
  first_worth zero h = refl
  first_worth (suc k) h =
      first_worth k (omega arith) ∙ worth_digit l k (omega arith) (digits k (omega arith)) (number_at 10 l 0 k)
      ∙ ap (λ (i : ℕ). worth (number_at 10 l 0 k * 10 + digit_value (byte_at l i)) (drop (suc k) l)) (let z : k ≡ 0 + k = omega arith in z)

  all_worth : worth 0 l ≡ but_last l 0
  unfolding worth
  all_worth = first_worth (length l) (omega arith) ∙ ap (worth (number_at 10 l 0 (length l))) (drop_of_length-le l (let z : length l ≤ length l = omega arith in z)) ∙ ap (number_at 10 l 0) (let z : length l ≡ length l - 0 = omega arith in z)

  module _ (i : ℕ) where
    by_end : (t : Bool) → ltb i (length l) ≡ t → (is_digit 10 (cond t (byte_at l (length l - 1 - i)) digit_zero) ≡ true) × (but_last l i ≡ but_last l (suc i) * 10 + digit_value (cond t (byte_at l (length l - 1 - i)) digit_zero))
    unfolding number_at digit_value
    by_end true e =
        let inside : i < length l = ltb-true i (length l) e in
        let one : length l - i ≡ suc (length l - suc i) = omega arith in
        let here : 0 + (length l - suc i) ≡ length l - 1 - i = omega arith in
        (digits (length l - 1 - i) (omega arith), ap (number_at 10 l 0) one ∙ ap (λ (j : ℕ). but_last l (suc i) * 10 + digit_value (byte_at l j)) here)
    by_end false e =
        let outside : length l ≤ i = ltb-false i (length l) e in
        let none : length l - i ≡ 0 = omega arith in
        let none_again : length l - suc i ≡ 0 = omega arith in
        (refl, ap (number_at 10 l 0) none ∙ ap (λ (j : ℕ). number_at 10 l 0 j * 10 + 0) (sym none_again))

    end_digit : is_digit 10 (from_end l i) ≡ true
    unfolding from_end
    end_digit = (by_end (ltb i (length l)) refl).0

    end_worth : but_last l i ≡ but_last l (suc i) * 10 + digit_value (from_end l i)
    unfolding from_end
    end_worth = (by_end (ltb i (length l)) refl).1

-- one byte stands for one digit
digit_byte : (b c : ℕ) → is_digit 10 b ≡ true → is_digit 10 c ≡ true → digit_value b ≡ digit_value c → b ≡ c
digit_byte b c e f same =
    let x = decimal_digit b e in
    let y = decimal_digit c f in
    omega arith

module _ (a b : List ℕ) (in_a : AllDigits a) (in_b : AllDigits b) where
  by_pair : (i : ℕ) (t : Bool) → eqb (from_end a i) (from_end b i) ≡ t → (t && eqb (but_last a (suc i)) (but_last b (suc i))) ≡ eqb (but_last a i) (but_last b i)
  by_pair i true e =
      sym ((λ z. eqb (end_worth a in_a i z) (end_worth b in_b i z))
      ∙ ends_same (but_last a (suc i)) (but_last b (suc i)) (digit_value (from_end a i)) (digit_value (from_end b i)) (ap digit_value (eqb-true (from_end a i) (from_end b i) e)))
  by_pair i false e =
      let digit : (l : List ℕ) → AllDigits l → digit_value (from_end l i) < 10 = λ l d. ltb-true (digit_value (from_end l i)) 10 (end_digit l d i) in
      sym ((λ z. eqb (end_worth a in_a i z) (end_worth b in_b i z))
      ∙ ne_eqb (but_last a (suc i) * 10 + digit_value (from_end a i)) (but_last b (suc i) * 10 + digit_value (from_end b i))
      (ends (but_last a (suc i)) (but_last b (suc i)) (digit_value (from_end a i)) (digit_value (from_end b i)) (digit a in_a) (digit b in_b)
      (λ q. true≢false (sym (eq-eqb (from_end a i) (from_end b i) (digit_byte (from_end a i) (from_end b i) (end_digit a in_a i) (end_digit b in_b i) q)) ∙ e))))

  -- d places from place i on
  walk : (d i : ℕ) → length a ≤ i + d → length b ≤ i + d → list_all (λ j. eqb (from_end a j) (from_end b j)) (range_with_len i d) ≡ eqb (but_last a i) (but_last b i)
  walk zero i ha hb = sym (λ z. eqb (none_left a i (let h : length a ≤ i = omega arith in h) z) (none_left b i (let h : length b ≤ i = omega arith in h) z))
  walk (suc d) i ha hb =
      ap (λ (t : Bool). eqb (from_end a i) (from_end b i) && t)
      (walk d (i + 1) (omega arith) (omega arith) ∙ ap (λ (k : ℕ). eqb (but_last a k) (but_last b k)) (let z : i + 1 ≡ suc i = omega arith in z))
      ∙ by_pair i (eqb (from_end a i) (from_end b i)) refl

  pub same_number : (n : ℕ) → length a ≤ n → length b ≤ n → list_all (λ j. eqb (from_end a j) (from_end b j)) (range_with_len 0 n) ≡ eqb (worth 0 a) (worth 0 b)
  same_number n ha hb = walk n 0 (omega arith) (omega arith) ∙ (λ z. eqb (sym (all_worth a in_a) z) (sym (all_worth b in_b) z))
