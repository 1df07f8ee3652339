-- The matrix of a text that was written: every float stands where it stood. Assumes nothing.
use Prim.Native.Nat.{ℕ, ◌+◌, ◌*◌, ◌/◌, ◌%◌, ◌<◌, ◌≤◌}
use mathlib.Core.Path.{◌≡◌, refl, sym, ap, ◌∙◌}
use mathlib.Core.Bool.{Bool, true, false, cond}
use mathlib.Core.List.{List, map}
use native.Mathlib.Nat.{div-lt_iff_lt-mul}
use native.Mathlib.Decide.{ℕ_discrete}
use native.Mathlib.Omega.{arith}
use lib.Dec.{eqb}
use lib.ListN.{length, get_or}
use lib.Seq.{ext_get_or}
use lib.Ieee.{Float}
use borrow.Author.Tests.{eq-eqb, ne_eqb}
use Rattle.refusals.specs.Largest as largest
use Rattle.real.specs.Operations as float
use Rattle.algebra.specs.Outcome.{value}
use Rattle.algebra.proofs.Flat.{tabulate_at, tabulate_map}
use Rattle.market.specs.Answers.{answered}
use Rattle.market.specs.Entries.{float_of, matrix_of}
use Rattle.market.specs.Read.{read_left}
use Rattle.market.specs.Text.{entry_at, text_of, is_writable}
use Rattle.market.proofs.WholeFloats.{back_of}
use Rattle.market.proofs.Places.{turned, turned_inside, turned_back, first_of}
use Rattle.market.proofs.MatrixAt.{matrix_length, matrix_at, float_general, float_other}
use Rattle.market.proofs.EntryLines.{entries_of}
use Rattle.market.proofs.ReadsFormat.{market_read, tidy_market}
use Rattle.market.proofs.WritesFormat.{written_market}

module _ (w n : ℕ) (a : List Float) (positive : 0 < w) (size : length a ≡ n * n * w) (good : is_writable w a ≡ true) where
  -- float number j of the matrix, read back
  abbrev pub back_at : ℕ → Float
  back_at j = cond (eqb (j % w) 0) (back_of (get_or a j float.zero)) float.zero

  module _ (j : ℕ) (inside : j < n * n * w) where
    abbrev record_inside : j / w < n * n
    record_inside = (div-lt_iff_lt-mul positive).1 inside

    real_back : j % w ≡ 0 → get_or (map back_of (entries_of w n a)) (turned n (j / w)) float.zero ≡ back_of (get_or a j float.zero)
    unfolding entry_at
    real_back e =
        let k = turned n (j / w) in
        ap (λ (l : List Float). get_or l k float.zero) (tabulate_map back_of (entry_at w n a) (λ i. back_of (entry_at w n a i)) (λ i. refl) (n * n) 0)
        ∙ tabulate_at (λ i. back_of (entry_at w n a i)) (n * n) 0 k float.zero (turned_inside n (j / w) record_inside)
        ∙ ap (λ (i : ℕ). back_of (entry_at w n a i)) (let z : 0 + k ≡ k = omega arith in z)
        ∙ ap (λ (i : ℕ). back_of (get_or a (i * w) float.zero)) (turned_back n (j / w) record_inside)
        ∙ ap (λ (i : ℕ). back_of (get_or a i float.zero)) (first_of w j e)

    float_back : float_of w false n (map back_of (entries_of w n a)) j ≡ back_at j
    float_back = by (ℕ_discrete (j % w) 0)
      where
        by : Dec (j % w ≡ 0) → float_of w false n (map back_of (entries_of w n a)) j ≡ cond (eqb (j % w) 0) (back_of (get_or a j float.zero)) float.zero
        by (yes e) = float_general w n (map back_of (entries_of w n a)) j e ∙ real_back e ∙ ap (λ (t : Bool). cond t (back_of (get_or a j float.zero)) float.zero) (sym (eq-eqb (j % w) 0 e))
        by (no e) = float_other w false n (map back_of (entries_of w n a)) j e ∙ ap (λ (t : Bool). cond t (back_of (get_or a j float.zero)) float.zero) (sym (ne_eqb (j % w) 0 e))

  -- reading what was written gives a matrix b if b has each real part read back, and +0 as each other part
  pub read_back : (b out : List Float) → n ≤ largest.n → length out ≡ n * n * w → length b ≡ n * n * w → ((j : ℕ) → j < n * n * w → back_at j ≡ get_or b j float.zero) → read_left w (text_of w n a) out ≡ answered (value n) b
  read_back b out few room long same =
      let numbers = map back_of (entries_of w n a) in
      market_read w false n numbers (text_of w n a) (tidy_market false n numbers (text_of w n a) (written_market w n a positive size good few)) out room
      ∙ ap (answered (value n))
      (ext_get_or float.zero (matrix_of w false n numbers) b (matrix_length w false n numbers ∙ sym long)
      (λ j h. let g : j < n * n * w = omega (arith, matrix_length w false n numbers) in matrix_at w false n numbers j g ∙ float_back j g ∙ same j g))
