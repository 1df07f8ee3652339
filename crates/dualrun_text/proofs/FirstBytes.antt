-- A request is decided by the text's first line, and by its first 24 bytes: the longest first line that can be read is "eig ", nine digits, a space, nine
-- digits and a newline. Assumes nothing.
use Prim.Native.Nat.{ℕ, zero, suc, ◌+◌, ◌*◌, ◌<◌, ◌≤◌}
use mathlib.Core.Path.{◌≡◌, refl, sym, ap, subst, ◌∙◌}
use mathlib.Core.Bool.{Bool, true, false, cond, ◌&&◌}
use mathlib.Core.List.{List}
use native.Mathlib.Omega.{arith}
use lib.Dec.{leb, ltb, eqb, lit<}
use lib.ListN.{length}
use borrow.Author.Tests.{eqb-true, ne_eqb, ltb-true, ltb-false}
use Rattle.std.specs.Prelude.{Option, Some, None}
use Rattle.texts.specs.declared.Number.{Number}
use Rattle.texts.specs.Bytes.{newline, space}
use Rattle.texts.specs.Digits.{byte_at, every, starts_with, no_newline, is_digit, digit_value, digit_run, number_at}
use Rattle.texts.specs.Numbers.{number_from}
use Rattle.texts.proofs.Every.{every_at}
use Rattle.texts.proofs.Digits.{past_end, digit_run_most}
use Rattle.texts.proofs.Numbers.{number_end}
use Rattle.texts.proofs.Newline.{Clear, clear_fewer, clear_more, clear_text, digit_clear, run_clear, number_clear}
use Rattle.dualrun_text.specs.declared.Request.{Request}
use Rattle.dualrun_text.specs.declared.Request.TheVariants.{Lu, Eig}
use Rattle.dualrun_text.specs.Request.{number_digits, longest_line, after, number_then, lu_line, limit_line, eig_line, lu_word, eig_word, request_of}

-- ---- the two words have no newline, nor has a text where it begins with one
lu_clear : no_newline lu_word ≡ true
unfolding no_newline every
lu_clear = refl

eig_clear : no_newline eig_word ≡ true
unfolding no_newline every
eig_clear = refl

begun : (t word : List ℕ) (n : ℕ) → Clear word n → every (λ i. eqb (byte_at t i) (byte_at word i)) n ≡ true → Clear t n
begun t word n c e j lt z = c j lt (sym (eqb-true _ _ (every_at (λ i. eqb (byte_at t i) (byte_at word i)) n j e lt)) ∙ z)

-- ---- two texts whose bytes are the same up to the first newline of the second, or as far as the longest line goes
module _ (s t : List ℕ) (same : (i : ℕ) → i < longest_line → Clear t i → byte_at s i ≡ byte_at t i) where
  starts_same : (word : List ℕ) → length word ≤ longest_line → no_newline word ≡ true → starts_with word s ≡ starts_with word t
  unfolding starts_with every
  starts_same word h none = go (length word) h (clear_text word none)
    where
      go : (n : ℕ) → n ≤ longest_line → Clear word n → every (λ i. eqb (byte_at s i) (byte_at word i)) n ≡ every (λ i. eqb (byte_at t i) (byte_at word i)) n
      go zero h c = refl
      go (suc n) h c =
          ap (λ (b : Bool). b && eqb (byte_at s n) (byte_at word n)) (go n (omega arith) (clear_fewer word n c (omega arith)))
          ∙ by (every (λ i. eqb (byte_at t i) (byte_at word i)) n) refl
        where
          by : (b : Bool) → every (λ i. eqb (byte_at t i) (byte_at word i)) n ≡ b → (b && eqb (byte_at s n) (byte_at word n)) ≡ (b && eqb (byte_at t n) (byte_at word n))
          by true e = ap (λ (x : ℕ). eqb x (byte_at word n)) (same n (omega arith) (begun t word n (clear_fewer word n c (omega arith)) e))
          by false e = refl

  run_same : (d p : ℕ) → p + d ≤ longest_line → Clear t p → digit_run 10 d s p ≡ digit_run 10 d t p
  unfolding digit_run
  run_same zero p h c = refl
  run_same (suc d) p h c =
      ap (λ (b : ℕ). cond (is_digit 10 b) (suc (digit_run 10 d s (p + 1))) 0) (same p (omega arith) c)
      ∙ by (is_digit 10 (byte_at t p)) refl (run_same d (p + 1) (omega arith))
    where
      by : (b : Bool) → is_digit 10 (byte_at t p) ≡ b → (Clear t (p + 1) → digit_run 10 d s (p + 1) ≡ digit_run 10 d t (p + 1)) → cond b (suc (digit_run 10 d s (p + 1))) 0 ≡ cond b (suc (digit_run 10 d t (p + 1))) 0
      by true e more = ap suc (more (clear_more t p c (digit_clear (byte_at t p) e)))
      by false e more = refl

  spelled_same : (p k : ℕ) → p + k ≤ longest_line → Clear t (p + k) → number_at 10 s p k ≡ number_at 10 t p k
  unfolding number_at
  spelled_same p zero h c = refl
  spelled_same p (suc k) h c =
      let d = clear_fewer t (p + k) c (omega arith) in
      ap (λ (v : ℕ). v * 10 + digit_value (byte_at s (p + k))) (spelled_same p k (omega arith) d)
      ∙ ap (λ (b : ℕ). number_at 10 t p k * 10 + digit_value b) (same (p + k) (omega arith) d)

  number_same : (p : ℕ) → p + (number_digits + 1) ≤ longest_line → Clear t p → number_from number_digits s p ≡ number_from number_digits t p
  unfolding number_from
  number_same p h c =
      let most = number_digits + 1 in
      let k = digit_run 10 most t p in
      ap (λ (j : ℕ). cond (ltb 0 j && leb j number_digits) (found (number_at 10 s p j) j) None) (run_same most p h c)
      ∙ (let m = digit_run_most 10 t most p in
      ap (λ (v : ℕ). cond (ltb 0 k && leb k number_digits) (found v k) None) (spelled_same p k (omega arith) (run_clear t most p c)))
    where
      found : ℕ → ℕ → Option Number
      found v k = Some (record { value = v; end = p + k })

  module _ (p wanted : ℕ) (f g : ℕ → ℕ → Option Request) (h : p + (number_digits + 1) ≤ longest_line) (c : Clear t p) (agree : (v e : ℕ) → e ≤ p + number_digits → Clear t e → byte_at t e ≡ wanted → f v (e + 1) ≡ g v (e + 1)) where
    after_same : (m : Option Number) → m ≡ number_from number_digits t p → after s wanted f m ≡ after t wanted g m
    after_same (Some n) r =
        let k = number_end number_digits t p n (sym r) in
        let d = number_clear t number_digits p n (sym r) c in
        ap (λ (b : ℕ). cond (eqb b wanted) (f n.value (n.end + 1)) None) (same n.end (omega arith) d)
        ∙ by k d (eqb (byte_at t n.end) wanted) refl
      where
        by : n.end ≤ p + number_digits → Clear t n.end → (b : Bool) → eqb (byte_at t n.end) wanted ≡ b → cond b (f n.value (n.end + 1)) None ≡ cond b (g n.value (n.end + 1)) None
        by k d true q = agree n.value n.end k d (eqb-true _ _ q)
        by k d false q = refl
    after_same None r = refl

    then_same : number_then s p wanted f ≡ number_then t p wanted g
    unfolding number_then
    then_same = ap (after s wanted f) (number_same p h c) ∙ after_same (number_from number_digits t p) refl

  limit_same : (n p : ℕ) → p + (number_digits + 1) ≤ longest_line → Clear t p → limit_line s n p ≡ limit_line t n p
  limit_same n p h c = then_same p newline (λ limit start. Some (Eig n limit start)) (λ limit start. Some (Eig n limit start)) h c (λ v e k d q. refl)

  begun_clear : (word : List ℕ) → no_newline word ≡ true → starts_with word t ≡ true → Clear t (length word)
  unfolding starts_with
  begun_clear word none e = begun t word (length word) (clear_text word none) e

  lu_same : (b : Bool) → starts_with lu_word t ≡ b → (q : Option Request) → cond b (lu_line s) q ≡ cond b (lu_line t) q
  lu_same true e q = then_same (length lu_word) newline (λ n start. Some (Lu n start)) (λ n start. Some (Lu n start)) (omega arith) (begun_clear lu_word lu_clear e) (λ v e k d q. refl)
  lu_same false e q = refl

  eig_same : (b : Bool) → starts_with eig_word t ≡ b → (q : Option Request) → cond b (eig_line s) q ≡ cond b (eig_line t) q
  eig_same true e q =
      then_same (length eig_word) space (limit_line s) (limit_line t) (omega arith) (begun_clear eig_word eig_clear e)
      (λ v e k d q. limit_same v (e + 1) (omega arith) (clear_more t e d (λ z. let y : ◌≡◌ {A = ℕ} newline space = sym z ∙ q in omega arith)))
  eig_same false e q = refl

  pub request_same : request_of s ≡ request_of t
  unfolding request_of
  request_same =
      ap (λ (b : Bool). cond b (lu_line s) (cond (starts_with eig_word s) (eig_line s) None)) (starts_same lu_word (omega arith) lu_clear)
      ∙ lu_same (starts_with lu_word t) refl _
      ∙ ap (λ (b : Bool). cond (starts_with lu_word t) (lu_line t) (cond b (eig_line s) None)) (starts_same eig_word (omega arith) eig_clear)
      ∙ ap (λ (q : Option Request). cond (starts_with lu_word t) (lu_line t) q) (eig_same (starts_with eig_word t) refl None)

-- ---- where the matrix starts
abbrev pub start_of : Option Request → ℕ
start_of (Some (Lu n start)) = start
start_of (Some (Eig n limit start)) = start
start_of None = 0

module _ (t : List ℕ) where
  module _ (p wanted most : ℕ) (f : ℕ → ℕ → Option Request) (small : (v e : ℕ) → e ≤ p + number_digits → start_of (f v (e + 1)) ≤ most) where
    after_small : (m : Option Number) → m ≡ number_from number_digits t p → start_of (after t wanted f m) ≤ most
    after_small (Some n) r = by (eqb (byte_at t n.end) wanted)
      where
        by : (b : Bool) → start_of (cond b (f n.value (n.end + 1)) None) ≤ most
        by true = small n.value n.end (number_end number_digits t p n (sym r))
        by false = omega arith
    after_small None r = omega arith

    then_small : start_of (number_then t p wanted f) ≤ most
    unfolding number_then
    then_small = after_small (number_from number_digits t p) refl

  pub start_small : start_of (request_of t) ≤ longest_line
  unfolding request_of
  start_small = by (starts_with lu_word t) (starts_with eig_word t)
    where
      by : (a b : Bool) → start_of (cond a (lu_line t) (cond b (eig_line t) None)) ≤ longest_line
      by true b = then_small (length lu_word) newline longest_line (λ n start. Some (Lu n start)) (λ v e k. omega arith)
      by false true = then_small (length eig_word) space longest_line (limit_line t) (λ v e k. then_small (e + 1) newline longest_line (λ limit start. Some (Eig v limit start)) (λ w d j. omega arith))
      by false false = omega arith

  -- the byte behind a number stands in the text, so the matrix starts in it or right after it
  byte_inside : (p b : ℕ) → byte_at t p ≡ b → 0 < b → p < length t
  byte_inside p b e h = by (ltb p (length t)) refl
    where
      by : (x : Bool) → ltb p (length t) ≡ x → p < length t
      by true g = ltb-true p (length t) g
      by false g = absurd (let z : 0 ≡ byte_at t p = past_end t p (ltb-false p (length t) g) in omega arith)

  module _ (p wanted : ℕ) (shown : 0 < wanted) (f : ℕ → ℕ → Option Request) (starts : (v e : ℕ) → e < length t → start_of (f v (e + 1)) ≤ length t) where
    after_inside : (m : Option Number) → start_of (after t wanted f m) ≤ length t
    after_inside (Some n) = by (eqb (byte_at t n.end) wanted) refl
      where
        by : (b : Bool) → eqb (byte_at t n.end) wanted ≡ b → start_of (cond b (f n.value (n.end + 1)) None) ≤ length t
        by true e = starts n.value n.end (byte_inside n.end wanted (eqb-true (byte_at t n.end) wanted e) shown)
        by false e = omega arith
    after_inside None = omega arith

    then_inside : start_of (number_then t p wanted f) ≤ length t
    unfolding number_then
    then_inside = after_inside (number_from number_digits t p)

  start_inside : start_of (request_of t) ≤ length t
  unfolding request_of
  start_inside = by (starts_with lu_word t) (starts_with eig_word t)
    where
      by : (a b : Bool) → start_of (cond a (lu_line t) (cond b (eig_line t) None)) ≤ length t
      by true b = then_inside (length lu_word) newline (lit< tt) (λ n start. Some (Lu n start)) (λ v e h. omega arith)
      by false true = then_inside (length eig_word) space (lit< tt) (limit_line t) (λ v e h. then_inside (e + 1) newline (lit< tt) (λ limit start. Some (Eig v limit start)) (λ w d g. omega arith))
      by false false = omega arith

  -- the reader's answer, by its case
  pub lu_start : (q : Option Request) (n start : ℕ) → q ≡ Some (Lu n start) → q ≡ request_of t → start ≤ length t
  lu_start q n start e g = subst (λ (r : Option Request). start_of r ≤ length t) (sym g ∙ e) start_inside

  pub eig_start : (q : Option Request) (n limit start : ℕ) → q ≡ Some (Eig n limit start) → q ≡ request_of t → start ≤ length t
  eig_start q n limit start e g = subst (λ (r : Option Request). start_of r ≤ length t) (sym g ∙ e) start_inside

  -- ---- no newline as far as the longest line goes: nothing can be read
  module _ (none : Clear t longest_line) where
    unended : (p : ℕ) (f : ℕ → ℕ → Option Request) → p + (number_digits + 1) ≤ longest_line → number_then t p newline f ≡ None
    unfolding number_then
    unended p f h = by (number_from number_digits t p) refl
      where
        by : (m : Option Number) → m ≡ number_from number_digits t p → after t newline f m ≡ None
        by (Some n) r = let k = number_end number_digits t p n (sym r) in ap (λ (b : Bool). cond b (f n.value (n.end + 1)) None) (ne_eqb (byte_at t n.end) newline (none n.end (omega arith)))
        by None r = refl

    -- either way
    both : (b : Bool) (q : Option Request) → q ≡ None → cond b q None ≡ None
    both true q e = e
    both false q e = refl

    eig_unended : eig_line t ≡ None
    unfolding number_then
    eig_unended = by (number_from number_digits t (length eig_word)) refl
      where
        by : (m : Option Number) → m ≡ number_from number_digits t (length eig_word) → after t space (limit_line t) m ≡ None
        by (Some n) r = let k = number_end number_digits t (length eig_word) n (sym r) in both (eqb (byte_at t n.end) space) (limit_line t n.value (n.end + 1)) (unended (n.end + 1) (λ limit start. Some (Eig n.value limit start)) (omega arith))
        by None r = refl

    pub no_line : request_of t ≡ None
    unfolding request_of
    no_line =
        ap (λ (q : Option Request). cond (starts_with lu_word t) q (cond (starts_with eig_word t) (eig_line t) None)) (unended (length lu_word) (λ n start. Some (Lu n start)) (omega arith))
        ∙ ap (λ (q : Option Request). cond (starts_with lu_word t) None q) (both (starts_with eig_word t) (eig_line t) eig_unended)
        ∙ both (starts_with lu_word t) None refl
