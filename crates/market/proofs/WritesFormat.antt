-- What the writer writes of a matrix that can be written is a tidy text of the format, of the matrix's entries read back. Assumes nothing.
use Prim.Native.Nat.{ℕ, ◌*◌, ◌<◌, ◌≤◌}
use mathlib.Core.Path.{◌≡◌, refl, sym, ◌∙◌, subst}
use mathlib.Core.Bool.{true, false}
use mathlib.Core.List.{List, [], map}
use native.Mathlib.Omega.{arith}
use lib.ListN.{length, length-map}
use lib.Ieee.{Float}
use Rattle.refusals.specs.Largest as largest
use Rattle.algebra.proofs.Flat.{tabulate_length}
use Rattle.texts.specs.Numbers.{decimal_text}
use Rattle.market.specs.Format.{Entries, Market, count_of}
use Rattle.market.specs.Format.Comments.{none}
use Rattle.market.specs.Text.{entry_at, lines_of, text_of, is_writable}
use Rattle.market.proofs.Decimals.{decimal_digits, decimal_worth}
use Rattle.market.proofs.DecimalsBack.{decimal_tidy}
use Rattle.market.proofs.WholeFloats.{back_of}
use Rattle.market.proofs.Length.{text_short}
use Rattle.market.proofs.Lines.{text_shape}
use Rattle.market.proofs.EntryLines.{entries_of, lines_each_lem, each_tidy}
use Rattle.market.proofs.Writable.{entries_whole}

module _ (w n : ℕ) (a : List Float) (positive : 0 < w) (size : length a ≡ n * n * w) (good : is_writable w a ≡ true) (few : n ≤ largest.n) where
  pub written_market : Market true false n (map back_of (entries_of w n a)) (text_of w n a)
  unfolding count_of
  written_market =
      let small : n ≤ largest.whole = omega arith in record {
        comments = [];
        rows = decimal_text n;
        columns = decimal_text n;
        entries = lines_of w n a (n * n);
        lines = text_shape w n a;
        commented = none;
        plain = λ e. refl;
        row_digits = decimal_digits n;
        column_digits = decimal_digits n;
        short_rows = λ e. decimal_tidy n small;
        short_columns = λ e. decimal_tidy n small;
        height = decimal_worth n small;
        breadth = decimal_worth n small;
        listed = subst (λ (t : List ℕ). Entries true t (map back_of (entries_of w n a))) (sym (lines_each_lem w n a)) (each_tidy (entries_of w n a) (entries_whole w n a positive size good));
        count = length-map (entries_of w n a) back_of ∙ tabulate_length (entry_at w n a) (n * n) 0;
        few = few;
        fits = omega (arith, text_short w n a few);
      }
