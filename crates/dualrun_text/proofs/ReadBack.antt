-- Printing what was read gives it back: a word's digits, and 7ff8000000000000 for every NaN pattern. Assumes nothing.
use Prim.Native.Nat.{ℕ, zero, suc, ◌+◌, ◌*◌, ◌%◌, ◌<◌, ◌≤◌}
use mathlib.Core.Path.{◌≡◌, refl, sym, ap, ◌∙◌, subst}
use mathlib.Core.Bool.{Bool, true, not}
use mathlib.Core.List.{List, [], ◌∷◌, ◌++◌, append_assoc}
use native.Mathlib.Omega.{arith}
use lib.Dec.{T, eqb}
use lib.ListN.{length, get_or, take, drop, length-drop}
use lib.Seq.{take-suc, take-add, take_all, drop-drop, get_or-drop}
use lib.Ieee.{Float, binary64, to_bits}
use lib.Ieee.Bits.{to_bits-of_bits, nan_bits_is}
use borrow.Author.Tests.{eqb-true, eq-eqb, ne_eqb}
use Rattle.real.specs.Operations as float
use Rattle.algebra.proofs.Flat.{tabulate_at}
use Rattle.real.proofs.Nan.{above_is_nan, rest_is_not}
use Rattle.texts.specs.Bytes.{newline, space}
use Rattle.texts.specs.Digits.{byte_at, every, is_digit, digit_run, number_at}
use Rattle.texts.specs.Numbers.{hex_text}
use Rattle.texts.proofs.Every.{both_true, every_at}
use Rattle.texts.proofs.DigitsBack.{full_run, spelled_again, spelled_small}
use Rattle.dualrun_text.specs.Body.{word_digits, word_bytes, separator_of, is_word, word_of, is_body, float_at, floats_from}
use Rattle.dualrun_text.specs.Lines.{word_text, record_line, record_lines}

-- ---- a word of the matrix, read and written
module _ (text : List ℕ) (start i : ℕ) (good : is_word text start i ≡ true) where
  each_digit : (j : ℕ) → j < word_digits → is_digit 16 (byte_at text (start + word_bytes * i + j)) ≡ true
  unfolding is_word
  each_digit j h = full_run 16 text word_digits (start + word_bytes * i) j (eqb-true (digit_run 16 word_digits text (start + word_bytes * i)) word_digits (both_true (eqb (digit_run 16 word_digits text (start + word_bytes * i)) word_digits) _ good).0) h

  -- no NaN pattern: the 16 bytes that were read
  pub read_back : start + word_bytes * i + word_digits ≤ length text → word_of text start i % 0x8000_0000_0000_0000 ≤ 0x7ff0_0000_0000_0000 → word_text (float_at text start i) ≡ take word_digits (drop (start + word_bytes * i) text)
  unfolding word_text hex_text word_of
  read_back h w =
      let n = number_at 16 text (start + word_bytes * i) word_digits in
      ap hex_text (to_bits-of_bits binary64 n (spelled_small text (start + word_bytes * i) word_digits each_digit) (subst (λ (t : Bool). T (not t)) (nan_bits_is binary64 n) (rest_is_not n w)))
      ∙ spelled_again text (start + word_bytes * i) word_digits h each_digit

-- a NaN pattern: 7ff8000000000000
pub read_back_nan : (text : List ℕ) (start i : ℕ) → 0x7ff0_0000_0000_0000 < word_of text start i % 0x8000_0000_0000_0000
    → word_text (float_at text start i) ≡ 55 ∷ 102 ∷ 102 ∷ 56 ∷ 48 ∷ 48 ∷ 48 ∷ 48 ∷ 48 ∷ 48 ∷ 48 ∷ 48 ∷ 48 ∷ 48 ∷ 48 ∷ 48 ∷ []
unfolding word_text hex_text to_bits
read_back_nan text start i h = ap word_text (above_is_nan (word_of text start i) h)

-- ---- a matrix, read and printed
module _ (text : List ℕ) (start : ℕ) where
  -- word number i of the text, with the byte after it
  piece : ℕ → List ℕ
  piece i = take word_bytes (drop (start + word_bytes * i) text)

  piece_is : (i : ℕ) → is_word text start i ≡ true → start + word_bytes * i + word_bytes ≤ length text → word_of text start i % 0x8000_0000_0000_0000 ≤ 0x7ff0_0000_0000_0000
      → word_text (float_at text start i) ++ (separator_of i ∷ []) ≡ piece i
  unfolding is_word piece
  piece_is i good h w =
      let at = start + word_bytes * i in
      let inside : word_digits < length (drop at text) = simp length-drop (omega arith) in
      let mark : byte_at text (at + word_digits) ≡ separator_of i = eqb-true (byte_at text (at + word_digits)) (separator_of i) (both_true (eqb (digit_run 16 word_digits text at) word_digits) _ good).1 in
      ap (λ (l : List ℕ). l ++ (separator_of i ∷ [])) (read_back text start i good (omega arith) w)
      ∙ ap (λ (b : ℕ). take word_digits (drop at text) ++ (b ∷ [])) (sym mark ∙ sym (get_or-drop at text word_digits 0))
      ∙ sym (take-suc (drop at text) word_digits 0 inside)

  -- the text from start on, up to word number i, and that word more
  word_more : (i : ℕ) → take (word_bytes * i) (drop start text) ++ piece i ≡ take (word_bytes * (i + 1)) (drop start text)
  unfolding piece
  word_more i =
      ap (λ (l : List ℕ). take (word_bytes * i) (drop start text) ++ take word_bytes l) (sym (drop-drop (word_bytes * i) start text))
      ∙ sym (take-add (word_bytes * i) word_bytes (drop start text))
      ∙ ap (λ (k : ℕ). take k (drop start text)) (let e : word_bytes * i + word_bytes ≡ word_bytes * (i + 1) = omega arith in e)

  first_mark : (k : ℕ) → separator_of (2 * k) ≡ space
  first_mark k = rw (eq-eqb (2 * k % 2) 0 (omega arith))

  second_mark : (k : ℕ) → separator_of (2 * k + 1) ≡ newline
  second_mark k = rw (ne_eqb ((2 * k + 1) % 2) 0 (λ e. omega arith))

  module _ (count : ℕ) (good : is_body text start (2 * count) ≡ true) (plain : (i : ℕ) → i < 2 * count → word_of text start i % 0x8000_0000_0000_0000 ≤ 0x7ff0_0000_0000_0000) where
    size : length text ≡ start + word_bytes * (2 * count)
    unfolding is_body
    size = eqb-true (length text) (start + word_bytes * (2 * count)) (both_true (eqb (length text) (start + word_bytes * (2 * count))) (every (is_word text start) (2 * count)) good).0

    word_good : (i : ℕ) → i < 2 * count → is_word text start i ≡ true
    unfolding is_body
    word_good i h = every_at (is_word text start) (2 * count) i (both_true (eqb (length text) (start + word_bytes * (2 * count))) (every (is_word text start) (2 * count)) good).1 h

    at_word : (i : ℕ) → i < 2 * count → word_text (get_or (floats_from text start (2 * count)) i float.zero) ++ (separator_of i ∷ []) ≡ piece i
    unfolding floats_from
    at_word i h =
        ap (λ (x : Float). word_text x ++ (separator_of i ∷ [])) (tabulate_at (float_at text start) (2 * count) 0 i float.zero h ∙ ap (float_at text start) (let e : 0 + i ≡ i = omega arith in e))
        ∙ piece_is i (word_good i h) (let s = size in omega arith) (plain i h)

    -- the first k lines
    lines_back : (k : ℕ) → k ≤ count → record_lines (floats_from text start (2 * count)) k ≡ take (word_bytes * (2 * k)) (drop start text)
    unfolding record_lines record_line
    lines_back zero h = refl
    lines_back (suc k) h =
        let l = floats_from text start (2 * count) in
        let x = word_text (get_or l (2 * k) float.zero) in
        let y = word_text (get_or l (2 * k + 1) float.zero) in
        let a = at_word (2 * k) (omega arith) in
        let b = at_word (2 * k + 1) (omega arith) in
        let so_far = take (word_bytes * (2 * k)) (drop start text) in
        ap (λ (m : List ℕ). m ++ (x ++ (space ∷ []) ++ y ++ (newline ∷ []))) (lines_back k (omega arith))
        ∙ ap (λ (m : List ℕ). so_far ++ m) (append_assoc (x ++ (space ∷ [])) y (newline ∷ []))
        ∙ sym (append_assoc so_far (x ++ (space ∷ [])) (y ++ (newline ∷ [])))
        ∙ ap (λ (m : List ℕ). so_far ++ m ++ (y ++ (newline ∷ []))) (ap (λ (z : ℕ). x ++ (z ∷ [])) (sym (first_mark k)) ∙ a)
        ∙ ap (λ (m : List ℕ). so_far ++ piece (2 * k) ++ m) (ap (λ (z : ℕ). y ++ (z ∷ [])) (sym (second_mark k)) ∙ b)
        ∙ ap (λ (m : List ℕ). m ++ piece (2 * k + 1)) (word_more (2 * k))
        ∙ word_more (2 * k + 1)
        ∙ ap (λ (z : ℕ). take (word_bytes * z) (drop start text)) (let e : 2 * k + 1 + 1 ≡ 2 * suc k = omega arith in e)

    -- good lines without a NaN pattern, read and printed, are those lines
    pub matrix_back : record_lines (floats_from text start (2 * count)) count ≡ drop start text
    matrix_back = lines_back count (omega arith) ∙ take_all (word_bytes * (2 * count)) (drop start text) (let s = size in simp length-drop (omega arith))
