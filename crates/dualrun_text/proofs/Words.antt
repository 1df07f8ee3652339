-- The words of the matrix: each reader's answer by its tests, and the lines whole. Assumes nothing.
use Prim.Native.Nat.{ℕ, ◌+◌, ◌*◌, ◌<◌, ◌≤◌}
use mathlib.Core.Path.{◌≡◌, refl, sym, ap, ◌∙◌}
use mathlib.Core.Bool.{Bool, true, false, cond, ◌&&◌}
use mathlib.Core.List.{List}
use native.Mathlib.Omega.{arith}
use lib.Dec.{eqb}
use lib.ListN.{length, get_or, set, length-set}
use lib.Seq.{ext_get_or, get_or-set_same, get_or-set_other}
use lib.Ieee.{Float, nan, binary64, of_bits}
use borrow.Author.Count.{below_more}
use borrow.Author.Tests.{eq-eqb, ne_eqb}
use Rattle.std.specs.Prelude.{Option, Some, None, Result, Err}
use Rattle.std.specs.Option.{ok_or}
use Rattle.refusals.specs.declared.Refusal.{Refusal}
use Rattle.algebra.specs.Flat.{tabulate}
use Rattle.algebra.proofs.Flat.{tabulate_length, tabulate_at}
use Rattle.texts.specs.declared.Scan.{Scan}
use Rattle.texts.specs.Digits.{byte_at, every, number_at, scan_of}
use Rattle.texts.proofs.Every.{and_false, every_false, Passed, passed_more, passed_all}
use Rattle.dualrun_text.specs.Body.{word_digits, word_bytes, separator_of, is_word, word_of, word_at, is_body, float_at, floats_from}

-- ---- word number i, by the tests of its reader
module _ (text : List ℕ) (start i : ℕ) where
  by_test : (t : Bool) → is_word text start i ≡ t → cond t (Some (word_of text start i)) None ≡ word_at text start i
  by_test t e = ap (λ (x : Bool). cond x (Some (word_of text start i)) None) (sym e)

  module _ (s : Scan) (scanned : s ≡ scan_of 16 word_digits text (start + word_bytes * i)) where
    pub word_short : (s.digits ≡ word_digits → ⊥) → None ≡ word_at text start i
    unfolding is_word
    word_short h =
        by_test false
        (ap (λ (t : Bool). t && eqb (byte_at text (start + word_bytes * i + word_digits)) (separator_of i))
        (ap (λ (x : Scan). eqb x.digits word_digits) (sym scanned) ∙ ne_eqb s.digits word_digits h))

    module _ (b w : ℕ) (whole : s.digits ≡ word_digits) (at : b ≡ byte_at text (start + word_bytes * i + word_digits)) (wanted : w ≡ separator_of i) where
      by_separator : (t : Bool) → eqb b w ≡ t → is_word text start i ≡ t
      unfolding is_word
      by_separator t e =
          ap (λ (x : Bool). x && eqb (byte_at text (start + word_bytes * i + word_digits)) (separator_of i))
          (ap (λ (x : Scan). eqb x.digits word_digits) (sym scanned) ∙ eq-eqb s.digits word_digits whole)
          ∙ ap (λ (x : ℕ). eqb x (separator_of i)) (sym at) ∙ ap (eqb b) (sym wanted) ∙ e

      pub word_unended : (b ≡ w → ⊥) → None ≡ word_at text start i
      word_unended h = by_test false (by_separator false (ne_eqb b w h))

      pub word_read : b ≡ w → Some s.value ≡ word_at text start i
      unfolding word_of
      word_read h =
          ap (λ (v : ℕ). Some v) (ap (λ (x : Scan). x.value) scanned ∙ ap (number_at 16 text (start + word_bytes * i)) (ap (λ (x : Scan). x.digits) (sym scanned) ∙ whole))
          ∙ by_test true (by_separator true (eq-eqb b w h))

  -- and back: what the reader's answer says of the test
  tell : Option ℕ → Bool
  tell (Some w) = true
  tell None = false

  told : (t : Bool) → tell (cond t (Some (word_of text start i)) None) ≡ t
  unfolding tell
  told true = refl
  told false = refl

  module _ (w : Option ℕ) (read : w ≡ word_at text start i) where
    pub not_word : w ≡ None → is_word text start i ≡ false
    unfolding tell
    not_word g = sym (told (is_word text start i)) ∙ ap tell (sym read ∙ g)

    pub is_word_lem : (v : ℕ) → w ≡ Some v → is_word text start i ≡ true
    unfolding tell
    is_word_lem v g = sym (told (is_word text start i)) ∙ ap tell (sym read ∙ g)

    pub word_spells : (v : ℕ) → w ≡ Some v → v ≡ word_of text start i
    word_spells v g = let h : Some v ≡ Some (word_of text start i) = sym g ∙ read ∙ sym (by_test true (is_word_lem v g)) in cc

-- ---- no word, and the refusal in its place
pub none_of : (w : Option ℕ) (refusal e : Refusal) → ◌≡◌ {A = Result ℕ Refusal} (Err e) (ok_or w refusal) → (w ≡ None) × (e ≡ refusal)
none_of None refusal e given = (refl, cc)
none_of (Some x) refusal e given = absurd (cc)

-- ---- the lines whole
-- what the reader keeps: the words below i are good, and their floats stand in the matrix of m floats
pub record Reading (text : List ℕ) (start m : ℕ) (l : List Float) (i : ℕ) : Type 0 where
  pub size : length l ≡ m
  pub good : Passed (is_word text start) m i
  pub floats : (j : ℕ) → j < i → get_or l j nan ≡ float_at text start j

module _ (text : List ℕ) (start : ℕ) where
  module _ (m : ℕ) where
    pub body_other_length : (length text ≡ start + word_bytes * m → ⊥) → false ≡ is_body text start m
    unfolding is_body
    body_other_length h = sym (ap (λ (t : Bool). t && every (is_word text start) m) (ne_eqb _ _ h))

    module _ (l : List Float) (i : ℕ) (reading : Reading text start m l i) where
      pub body_other_word : (w : Option ℕ) → i < length l → w ≡ word_at text start i → w ≡ None → false ≡ is_body text start m
      unfolding is_body
      body_other_word w h read e =
          sym
          (ap (λ (t : Bool). eqb (length text) (start + word_bytes * m) && t) (every_false (is_word text start) m i (omega (arith, reading.size)) (not_word text start i w read e))
          ∙ and_false (eqb (length text) (start + word_bytes * m)))

      pub reading_more : (w : Option ℕ) (v : ℕ) (x : Float) → i < length l → w ≡ word_at text start i → w ≡ Some v → x ≡ of_bits binary64 v → Reading text start m (set l i x) (i + 1)
      reading_more w v x inside read is e =
          record {
            size = simp length-set reading.size;
            good = passed_more (is_word text start) m i reading.good (omega (arith, reading.size)) (is_word_lem text start i w read v is);
            floats =
                below_more (λ j. get_or (set l i x) j nan ≡ float_at text start j) i
                (λ j h. get_or-set_other l i j x nan (omega arith) ∙ reading.floats j h)
                (get_or-set_same l i x nan inside ∙ e ∙ ap (of_bits binary64) (word_spells text start i w read v is));
          }

      pub body_good : length text ≡ start + word_bytes * m → length l ≤ i → true ≡ is_body text start m
      unfolding is_body
      body_good e h = sym (ap (λ (t : Bool). t && every (is_word text start) m) (eq-eqb _ _ e) ∙ passed_all (is_word text start) m i reading.good (omega (arith, reading.size)))

      pub body_floats : length l ≤ i → l ≡ floats_from text start m
      unfolding floats_from
      body_floats h =
          ext_get_or nan l (tabulate (float_at text start) m 0) (reading.size ∙ sym (tabulate_length (float_at text start) m 0))
          (λ k lt.
          let g : k < m = omega (arith, reading.size) in
          reading.floats k (omega arith) ∙ ap (float_at text start) (let z : k ≡ 0 + k = omega arith in z) ∙ sym (tabulate_at (float_at text start) m 0 k nan g))
