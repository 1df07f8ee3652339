-- What a text asks, test by test: each law says what a reader answers where it stops, and that whatever is asked can be. Assumes nothing.
use Prim.Native.Nat.{ℕ, ◌+◌, ◌*◌, ◌%◌, ◌^◌, ◌≤◌, ◌<◌}
use mathlib.Core.Path.{◌≡◌, refl, sym, ap, ◌∙◌, subst}
use mathlib.Core.Bool.{Bool, true, false, cond, not}
use mathlib.Core.List.{List}
use native.Mathlib.Omega.{arith}
use lib.Dec.{leb, ltb, eqb}
use lib.ListN.{length, get_or}
use borrow.Author.Tests.{ltb-true, leb-true, lt-ltb, le-ltb, le-leb, lt-leb, eq-eqb, ne_eqb, not-true, not-false}
use Rattle.std.specs.Prelude.{Option, Some, None}
use Rattle.texts.specs.declared.Number.{Number}
use Rattle.texts.specs.Bytes.{newline, space}
use Rattle.texts.specs.Digits.{byte_at}
use Rattle.texts.specs.Numbers.{number_from}
use Rattle.texts.proofs.Every.{read_same, read_other, both_true}
use Rattle.texts.proofs.Numbers.{number_end}
use Rattle.rootsteps.specs.declared.Steps.{Steps}
use Rattle.rootsteps.specs.Request.{number_digits, fewest_bits, most_bits, Askable, is_askable, steps, asked, ends_at, with_bits, bits_from, with_number, request_of}
use Rattle.rootsteps.proofs.Scaling.{weight}

-- ---- the two numbers
module _ (number bits : ℕ) where
  pub too_few : bits < fewest_bits → None ≡ asked number bits
  unfolding asked is_askable
  too_few h = rw (lt-leb fewest_bits bits h)

  module _ (some : fewest_bits ≤ bits) where
    pub too_many : most_bits < bits → None ≡ asked number bits
    unfolding asked is_askable
    too_many h = rw (le-leb fewest_bits bits some, lt-leb bits most_bits h)

    module _ (few : bits ≤ most_bits) where
      pub none : number ≡ 0 → None ≡ asked number bits
      unfolding asked is_askable
      none e = rw (le-leb fewest_bits bits some, le-leb bits most_bits few, le-ltb 0 number (let h : number ≤ 0 = omega arith in h))

      module _ (positive : number ≡ 0 → ⊥) where
        some_number : 0 < number
        some_number = omega arith

        pub too_large_lem : 1 * 2 ^ bits % 2 ^ 64 ≤ number → None ≡ asked number bits
        unfolding asked is_askable
        too_large_lem h =
            let g : 2 ^ bits ≤ number = subst (λ (x : ℕ). x ≤ number) (weight bits few) h in
            rw (le-leb fewest_bits bits some, le-leb bits most_bits few, lt-ltb 0 number some_number, le-ltb number (2 ^ bits) g)

        pub good : number < 1 * 2 ^ bits % 2 ^ 64 → steps number bits ≡ asked number bits
        unfolding asked is_askable
        good h =
            let g : number < 2 ^ bits = subst (λ (x : ℕ). number < x) (weight bits few) h in
            rw (le-leb fewest_bits bits some, le-leb bits most_bits few, lt-ltb 0 number some_number, lt-ltb number (2 ^ bits) g)

-- ---- the end of the text
module _ (text : List ℕ) (p : ℕ) where
  pub ends_here : length text ≡ p → true ≡ ends_at text p
  unfolding ends_at
  ends_here e = rw (eq-eqb (length text) p e)

  module _ (more : length text ≡ p → ⊥) where
    pub ends_later : (length text ≡ p + 1 → ⊥) → false ≡ ends_at text p
    unfolding ends_at
    ends_later h = rw (ne_eqb (length text) p more, ne_eqb (length text) (p + 1) h)

    pub ends_newline : length text ≡ p + 1 → eqb (get_or text p 0) newline ≡ ends_at text p
    unfolding ends_at
    ends_newline e = rw (ne_eqb (length text) p more, eq-eqb (length text) (p + 1) e)

-- ---- the bits, after the number
module _ (text : List ℕ) (number p : ℕ) (m : Option Number) (read : m ≡ number_from number_digits text p) where
  pub bits_not : m ≡ None → None ≡ bits_from text number p
  unfolding bits_from
  bits_not e = ap (with_bits text number) (sym e ∙ read)

  module _ (bits : Number) (is : m ≡ Some bits) where
    pub end_early : p ≤ number_digits + 1 → bits.end < 2 ^ 63
    end_early h = omega (arith, number_end number_digits text p bits (sym read ∙ is))

    module _ (e : Bool) (told : e ≡ ends_at text bits.end) where
      by_end : (t : Bool) → e ≡ t → cond t (asked number bits.value) None ≡ bits_from text number p
      unfolding bits_from
      by_end t g = ap (λ (x : Bool). cond x (asked number bits.value) None) (sym g ∙ told) ∙ ap (with_bits text number) (sym is ∙ read)

      pub bits_longer : not e ≡ true → None ≡ bits_from text number p
      bits_longer h = by_end false (not-true e h)

      pub bits_read : (r : Option Steps) → not e ≡ false → r ≡ asked number bits.value → r ≡ bits_from text number p
      bits_read r h g = g ∙ by_end true (not-false e h)

-- ---- the number
module _ (text : List ℕ) (m : Option Number) (read : m ≡ number_from number_digits text 0) where
  pub number_not : m ≡ None → None ≡ request_of text
  unfolding request_of
  number_not e = ap (with_number text) (sym e ∙ read)

  module _ (number : Number) (is : m ≡ Some number) where
    pub bits_early : number.end + 1 ≤ number_digits + 1
    bits_early = omega (arith, number_end number_digits text 0 number (sym read ∙ is))

    module _ (b : ℕ) (at : b ≡ byte_at text number.end) where
      by_space : (t : Bool) → eqb (byte_at text number.end) space ≡ t → cond t (bits_from text number.value (number.end + 1)) None ≡ request_of text
      unfolding request_of
      by_space t e = ap (λ (x : Bool). cond x (bits_from text number.value (number.end + 1)) None) (sym e) ∙ ap (with_number text) (sym is ∙ read)

      pub number_alone : (b ≡ space → ⊥) → None ≡ request_of text
      number_alone h = by_space false (read_other b _ space at h)

      pub number_read : (r : Option Steps) → b ≡ space → r ≡ bits_from text number.value (number.end + 1) → r ≡ request_of text
      number_read r h e = e ∙ by_space true (read_same b _ space at h)

-- ---- whatever is asked can be
OnlyAskable : Option Steps → Type 0
OnlyAskable (Some asked) = Askable asked.number asked.bits
OnlyAskable None = Unit

asked_only : (number bits : ℕ) → OnlyAskable (asked number bits)
unfolding OnlyAskable asked is_askable
asked_only number bits = by (is_askable number bits) refl
  where
    by : (t : Bool) → is_askable number bits ≡ t → OnlyAskable (cond t (steps number bits) None)
    by true e =
        let first = both_true (leb fewest_bits bits) _ e in
        let second = both_true (leb bits most_bits) _ first.1 in
        let third = both_true (ltb 0 number) _ second.1 in
        record { some = leb-true _ _ first.0; few = leb-true _ _ second.0; positive = ltb-true _ _ third.0; fits = ltb-true _ _ third.1 }
    by false e = tt

bits_only : (text : List ℕ) (number : ℕ) (m : Option Number) → OnlyAskable (with_bits text number m)
unfolding OnlyAskable
bits_only text number (Some bits) = by (ends_at text bits.end)
  where
    by : (t : Bool) → OnlyAskable (cond t (asked number bits.value) None)
    by true = asked_only number bits.value
    by false = tt
bits_only text number None = tt

number_only : (text : List ℕ) (m : Option Number) → OnlyAskable (with_number text m)
unfolding OnlyAskable bits_from
number_only text (Some number) = by (eqb (byte_at text number.end) space)
  where
    by : (t : Bool) → OnlyAskable (cond t (bits_from text number.value (number.end + 1)) None)
    by true = bits_only text number.value (number_from number_digits text (number.end + 1))
    by false = tt
number_only text None = tt

pub askable : (text : List ℕ) (r : Option Steps) (asked : Steps) → r ≡ request_of text → r ≡ Some asked → Askable asked.number asked.bits
unfolding OnlyAskable request_of
askable text r asked read is = subst OnlyAskable (sym read ∙ is) (number_only text (number_from number_digits text 0))
