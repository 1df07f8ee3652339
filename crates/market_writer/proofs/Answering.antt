-- What the writer leaves, way by way. Assumes nothing.
use Rattle.std.proofs.Common.{◌≡◌, ℕ, ◌+◌, ◌-◌, ◌*◌, ◌<◌, ◌≤◌, Bool, true, false, List, ◌++◌, length, take, drop, replicate, sym, ap, ◌∙◌, arith, le-ltb, lt-ltb, eq-eqb, ne_eqb}
use mathlib.Core.List.{append-nil}
use lib.ListN.{length-drop, drop_of_length-le}
use lib.Seq.{sets, sets-eq, take-append_seam, length-take-le}
use lib.Ieee.{Float}
use Rattle.refusals.specs.Number as refusal
use Rattle.refusals.specs.Largest as largest
use Rattle.algebra.specs.Outcome.{value, refused}
use Rattle.texts.specs.Page.{Page, page, written}
use Rattle.texts.proofs.Page.{written_length, written_fits}
use Rattle.market.specs.Answers.{answered}
use Rattle.market.specs.Text.{text_of, is_writable}
use Rattle.market.specs.Write as Write
use Rattle.market.specs.Write.{write_text, write_left}
use Rattle.market.proofs.Length.{text_short}

-- zeros from a place on fill the rest
pub zeros_after : (m l : List ℕ) (end : ℕ) → end ≤ length m → l ≡ replicate (length (take (length m - end) (drop end m))) 0 → take end m ++ (l ++ drop (length m - end) (drop end m)) ≡ take end m ++ replicate (length m - end) 0
zeros_after m l end h e =
    let rest : length (drop end m) ≡ length m - end = length-drop end m in
    ap (λ (x : List ℕ). take end m ++ x)
    (ap (λ (x : List ℕ). l ++ x) (drop_of_length-le (drop end m) {i = length m - end} (omega (arith, rest)))
    ∙ append-nil l ∙ e ∙ ap (λ (k : ℕ). replicate k 0) (length-take-le (length m - end) (drop end m) (omega (arith, rest))))

module _ (w n : ℕ) (a : List Float) (out : List ℕ) where
  pub write_large : largest.n < n → answered (refused refusal.too_large) out ≡ write_left w n a out
  unfolding write_left
  write_large h = rw (lt-ltb largest.n n h)

  module _ (few : n ≤ largest.n) where
    pub write_floats : (length a ≡ n * n * w → ⊥) → answered (refused refusal.wrong_length) out ≡ write_left w n a out
    unfolding write_left
    write_floats h = rw (le-ltb largest.n n few, ne_eqb (length a) (n * n * w) h)

    module _ (size : length a ≡ n * n * w) where
      pub write_bytes : (length out ≡ Write.page → ⊥) → answered (refused refusal.wrong_length) out ≡ write_left w n a out
      unfolding write_left
      write_bytes h = rw (le-ltb largest.n n few, eq-eqb (length a) (n * n * w) size, ne_eqb (length out) Write.page h)

      module _ (room : length out ≡ Write.page) (t : Bool) (told : t ≡ is_writable w a) where
        pub write_not : t ≡ false → answered (refused refusal.unwritable) out ≡ write_left w n a out
        unfolding write_left
        write_not e = rw (le-ltb largest.n n few, eq-eqb (length a) (n * n * w) size, eq-eqb (length out) Write.page room, sym told ∙ e)

        write_does : t ≡ true → write_text (text_of w n a) ≡ write_left w n a out
        unfolding write_left
        write_does e = rw (le-ltb largest.n n few, eq-eqb (length a) (n * n * w) size, eq-eqb (length out) Write.page room, sym told ∙ e)

        module _ (m : List ℕ) (end : ℕ) (e : page m end ≡ written (page out 0) (text_of w n a)) where
          filled : page m end ≡ page (sets out 0 (text_of w n a)) (length (text_of w n a))
          filled =
              e ∙ written_fits out 0 (text_of w n a) (let h : length (text_of w n a) ≤ Write.page = text_short w n a few in omega arith)
              ∙ ap (page (sets out 0 (text_of w n a))) (let z : 0 + length (text_of w n a) ≡ length (text_of w n a) = omega arith in z)

          end_is : end ≡ length (text_of w n a)
          end_is = ap (λ (p : Page). p.used) filled

          long : length m ≡ Write.page
          long = ap (λ (p : Page). length p.bytes) e ∙ written_length (page out 0) (text_of w n a) ∙ room

          front : take end m ≡ text_of w n a
          front =
              let h : length (text_of w n a) ≤ Write.page = text_short w n a few in
              (λ i. take (end_is i) (filled i).bytes)
              ∙ ap (take (length (text_of w n a))) (sets-eq (text_of w n a) out 0 (omega arith))
              ∙ take-append_seam (text_of w n a) (drop (0 + length (text_of w n a)) out)

          pub end_inside : end ≤ length m
          end_inside = let h : length (text_of w n a) ≤ Write.page = text_short w n a few in omega (arith, end_is, long)

          pub write_done : (left : List ℕ) → t ≡ true → left ≡ take end m ++ replicate (length m - end) 0 → answered (value end) left ≡ write_left w n a out
          unfolding write_text
          write_done left yes-it-is g =
              (λ i. answered (value (end_is i)) (g i))
              ∙ (λ i. answered (value (length (text_of w n a))) (front i ++ replicate (long i - end_is i) 0))
              ∙ write_does yes-it-is
