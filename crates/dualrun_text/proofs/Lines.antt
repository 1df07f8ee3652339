-- What is printed where it is not merely part after part: an entry by its place, and one record or one entry more. Assumes nothing.
use Prim.Native.Nat.{ℕ, suc, ◌+◌, ◌*◌, ◌/◌, ◌<◌, ◌≤◌}
use mathlib.Core.Path.{◌≡◌, sym, ap, subst, ◌∙◌}
use mathlib.Core.List.{List, [], ◌∷◌, ◌++◌}
use native.Mathlib.Omega.{arith}
use lib.ListN.{length, get_or, drop}
use Rattle.std.specs.declared.slice.ChunksExact.{ChunksExact}
use Rattle.std.specs.Slice.Iter.{chunks_exact_size, chunks_exact_rest}
use lib.ListN.{length-drop, length-append, get_or-append}
use lib.Seq.{drop_at, drop-drop, get_or-drop}
use lib.Ieee.{Float, nan}
use borrow.Author.Tests.{eq-eqb, ne_eqb}
use Rattle.real.specs.Operations.{zero}
use Rattle.algebra.proofs.Inside.{get_or-inside}
use Rattle.texts.specs.Bytes.{space}
use Rattle.texts.specs.Numbers.{decimal_text}
use Rattle.texts.specs.declared.write.Writer.{Writer}
use Rattle.texts.specs.Page.{Puts}
use Rattle.texts.proofs.Page.{puts_none, puts_then, puts_as}
use Rattle.dualrun_text.specs.Lines.{record_line, record_lines, entry_text, entries}

module _ (u : Writer) where
  pub first_entry : (v : Writer) (i x : ℕ) → i ≡ 0 → Puts u v (decimal_text x) → Puts u v (entry_text i x)
  first_entry v i x e g = rw (eq-eqb i 0 e) g

  pub later_entry : (v w : Writer) (i x : ℕ) → (i ≡ 0 → ⊥) → Puts u v (space ∷ []) → Puts v w (decimal_text x) → Puts u w (entry_text i x)
  later_entry v w i x e g h = rw (ne_eqb i 0 e) (puts_then (space ∷ []) (decimal_text x) g h)

-- one record more, one entry more
pub records_more : (l : List Float) (k : ℕ) → 2 * k + 1 < length l → record_lines l k ++ record_line (get_or l (2 * k) nan) (get_or l (2 * k + 1) nan) ≡ record_lines l (k + 1)
unfolding record_lines
records_more l k h =
    (λ i. record_lines l k ++ record_line (get_or-inside l (2 * k) nan zero (omega arith) i) (get_or-inside l (2 * k + 1) nan zero (omega arith) i))
    ∙ ap (record_lines l) (let e : suc k ≡ k + 1 = omega arith in e)

pub entries_more : (l : List ℕ) (i : ℕ) → entries l i ++ entry_text i (get_or l i 0) ≡ entries l (i + 1)
unfolding entries
entries_more l i = ap (entries l) (let e : suc i ≡ i + 1 = omega arith in e)

-- what the loop over the records keeps: k of them are written, and the others are still to come
pub record Listing (l : List Float) (begin page : Writer) (it : ChunksExact Float) (k : ℕ) : Type 0 where
  pub within : 2 * k ≤ length l
  pub pairs : chunks_exact_size it ≡ 2
  pub rest : chunks_exact_rest it ≡ drop (2 * k) l
  pub put : Puts begin page (record_lines l k)

module _ (l : List Float) (begin : Writer) where
  pub listing_none : (it : ChunksExact Float) → chunks_exact_size it ≡ 2 → chunks_exact_rest it ≡ l → Listing l begin begin it 0
  unfolding record_lines
  listing_none it e f = record { within = omega arith; pairs = e; rest = f; put = puts_none }

  module _ (page : Writer) (it : ChunksExact Float) (k : ℕ) (so_far : Listing l begin page it k) where
    pub listing_more : (after : Writer) (t : ChunksExact Float) (x : List Float) (j : ℕ) → j ≡ k + 1 → chunks_exact_size t ≡ chunks_exact_size it → chunks_exact_rest it ≡ x ++ chunks_exact_rest t → length x ≡ chunks_exact_size it
        → Puts page after (record_line (get_or x 0 nan) (get_or x 1 nan)) → Listing l begin after t j
    listing_more after t x j next e f g p = subst (Listing l begin after t) (sym next) (record { within = omega (arith, room); pairs = e ∙ so_far.pairs; rest = left; put = puts_as (puts_then _ _ so_far.put p) line })
      where
        here : drop (2 * k) l ≡ x ++ chunks_exact_rest t
        here = sym so_far.rest ∙ f

        two : length x ≡ 2
        two = g ∙ so_far.pairs

        room : 2 * k + 1 < length l
        room = omega (arith, simp (length-drop, length-append) at (ap length here))

        part : (i : ℕ) → i < 2 → get_or x i nan ≡ get_or l (2 * k + i) nan
        part i h = sym (get_or-append x (chunks_exact_rest t) nan i (omega arith)) ∙ ap (λ (m : List Float). get_or m i nan) (sym here) ∙ get_or-drop (2 * k) l i nan

        left : chunks_exact_rest t ≡ drop (2 * (k + 1)) l
        left = sym (drop_at x (chunks_exact_rest t) 2 two) ∙ ap (drop 2) (sym here) ∙ drop-drop 2 (2 * k) l ∙ ap (λ (n : ℕ). drop n l) (let z : 2 * k + 2 ≡ 2 * (k + 1) = omega arith in z)

        line : record_lines l k ++ record_line (get_or x 0 nan) (get_or x 1 nan) ≡ record_lines l (k + 1)
        line =
            (λ i. record_lines l k ++ record_line (part 0 (omega arith) i) (part 1 (omega arith) i))
            ∙ ap (λ (n : ℕ). record_lines l k ++ record_line (get_or l n nan) (get_or l (2 * k + 1) nan)) (let z : 2 * k + 0 ≡ 2 * k = omega arith in z)
            ∙ records_more l k room

    pub listing_all : length (chunks_exact_rest it) < chunks_exact_size it → Puts begin page (record_lines l (length l / 2))
    listing_all h =
        puts_as so_far.put (ap (record_lines l) (let e : k ≡ length l / 2 = omega (arith, so_far.within, so_far.pairs, simp length-drop at (ap length so_far.rest)) in e))
