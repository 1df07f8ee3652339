-- What is printed where it is not merely part after part: by a test, or from what the steps found. Assumes nothing.
use Rattle.std.proofs.Common.{◌≡◌, sym, ap, ◌∙◌, ℕ, ◌+◌, ◌-◌, ◌*◌, ◌/◌, ◌≤◌, ◌<◌, Bool, cond, List, ◌++◌, arith, le-leb, lt-ltb, le-ltb}
use Rattle.std.proofs.lemmas.Bool.{lt-leb}
use Rattle.std.specs.Prelude.{Option, leb}
use Rattle.real.specs.declared.root.Found.{Found}
use Rattle.texts.specs.declared.write.Writer.{Writer}
use Rattle.texts.specs.Page.{Puts}
use Rattle.texts.proofs.Page.{puts_then, puts_as}
use Rattle.rootsteps.specs.declared.Steps.{Steps}
use Rattle.rootsteps.specs.Words.{yes, no}
use Rattle.rootsteps.specs.Request.{request_of}
use Rattle.rootsteps.specs.Start.{top_of, significand_of, exponent_of, start_of, last_of}
use Rattle.rootsteps.specs.Table.{leading_row, verdict, rows_of, sum_line, nearest_of, nearest_line, table_of}
use Rattle.rootsteps.specs.Output.{output_for, output_of}

module _ (u v : Writer) where
  -- what a text asks, by the reader's answer
  pub answered : (text : List ℕ) (q case : Option Steps) → q ≡ request_of text → q ≡ case → Puts u v (output_for case) → Puts u v (output_of text)
  unfolding output_of
  answered text q case asked e p = puts_as p (ap output_for (sym e ∙ asked))

-- the nearest is one more where more than the root is left
pub nearest_more : (root left nearest : ℕ) → root < left → nearest ≡ root + 1 → nearest ≡ nearest_of root left
nearest_more root left nearest h e = e ∙ ap (λ (b : Bool). cond b (root + 1) root) (sym (lt-ltb root left h))

pub nearest_same : (root left nearest : ℕ) → left ≤ root → nearest ≡ root → nearest ≡ nearest_of root left
nearest_same root left nearest h e = e ∙ ap (λ (b : Bool). cond b (root + 1) root) (sym (le-ltb root left h))

-- the table: what was read of the start and of the last bit, then four parts
module _ (u v w x y : Writer) (number bits : ℕ) (a exponent : ℕ) (first last : Found) where
  pub table_parts : (a ≡ significand_of number bits) × (exponent ≡ exponent_of number bits) → first ≡ start_of a bits → last ≡ last_of (bits - 1) (start_of a bits)
      → Puts u v (leading_row (first.twice / 2) first.rest) → Puts v w (rows_of (bits - 1) (start_of a bits)) → Puts w x (sum_line (last.twice / 2) last.rest number exponent)
      → Puts x y (nearest_line (last.twice / 2) last.rest (exponent / 2)) → Puts u y (table_of number bits)
  unfolding table_of
  table_parts scaled begin end f g h i =
      puts_as (puts_then _ _ (puts_then _ _ (puts_then _ _ f g) h) i)
      ((λ z. leading_row ((begin z).twice / 2) (begin z).rest ++ rows_of (bits - 1) (start_of a bits) ++ sum_line ((end z).twice / 2) (end z).rest number exponent ++ nearest_line ((end z).twice / 2) (end z).rest (exponent / 2))
      ∙ (λ z. ended (2 * top_of bits / 2) (scaled.0 z) (scaled.1 z))
      ∙ ap (λ (top : ℕ). ended top (significand_of number bits) (exponent_of number bits)) (let half : 2 * top_of bits / 2 ≡ top_of bits = omega arith in half))
    where
      ended : ℕ → ℕ → ℕ → List ℕ
      ended top a exponent =
          let last = last_of (bits - 1) (start_of a bits) in
          leading_row top (a - top_of bits) ++ rows_of (bits - 1) (start_of a bits) ++ sum_line (last.twice / 2) last.rest number exponent ++ nearest_line (last.twice / 2) last.rest (exponent / 2)
