-- The loop of the rows: what is written so far and the rows of the bits to come are all the rows, and the last of the bits to come is the last of all. Assumes nothing.
use Prim.Native.Nat.{ℕ, suc, ◌+◌, ◌-◌, ◌*◌, ◌^◌, ◌<◌}
use mathlib.Core.Path.{◌≡◌, refl, sym, ◌∙◌, subst}
use mathlib.Core.List.{List, [], ◌++◌, append_assoc, append-nil}
use Rattle.real.specs.declared.root.Found.{Found}
use Rattle.real.specs.Bits.{next_of}
use Rattle.real.proofs.BitByBit.{Kept, within, again}
use Rattle.texts.specs.declared.write.Writer.{Writer}
use Rattle.texts.specs.Page.{Puts}
use Rattle.texts.proofs.Page.{puts_none, puts_then, puts_as}
use Rattle.rootsteps.specs.Start.{top_of, Scales, start_of, last_of}
use Rattle.rootsteps.specs.Table.{row_of, rows_of}
use Rattle.rootsteps.proofs.AllSteps.{most, most_small, kept_start}

-- what the loop keeps, of so many rows from the first on
pub record Stepping (n count : ℕ) (first : Found) (begin page : Writer) (f : Found) (digits : ℕ) : Type 0 where
  pub kept : Kept most n digits f
  pub so_far : List ℕ
  pub put : Puts begin page so_far
  pub rows : so_far ++ rows_of digits f ≡ rows_of count first
  pub last : last_of digits f ≡ last_of count first

-- no row is written yet
pub stepping_none : (a bits : ℕ) (page : Writer) (f : Found) → Scales bits a → f ≡ start_of a bits → Stepping (a * top_of bits) (bits - 1) (start_of a bits) page page f (bits - 1)
stepping_none a bits page f s e =
    subst (λ (x : Found). Stepping (a * top_of bits) (bits - 1) (start_of a bits) page page x (bits - 1)) (sym e)
    record { kept = kept_start a bits s; so_far = []; put = puts_none; rows = refl; last = refl }

module _ (n count : ℕ) (first : Found) (begin page : Writer) (f : Found) (digits : ℕ) (so : Stepping n count first begin page f digits) where
  pub stepping_within : (f.rest < 2 ^ 62) × (f.twice + 2 * f.bit < 2 ^ 63)
  stepping_within = within most n digits f so.kept most_small

  -- one row more
  pub stepping_more : (after : Writer) (next : Found) (rest : ℕ) → digits ≡ suc rest → next ≡ next_of f → Puts page after (row_of f) → Stepping n count first begin after next rest
  unfolding rows_of last_of
  stepping_more after next rest come e w =
      subst (λ (x : Found). Stepping n count first begin after x rest) (sym e)
      record {
        kept = again most n rest f (subst (λ (d : ℕ). Kept most n d f) come so.kept);
        so_far = so.so_far ++ row_of f;
        put = puts_then so.so_far (row_of f) so.put w;
        rows = append_assoc so.so_far (row_of f) (rows_of rest (next_of f)) ∙ subst (λ (d : ℕ). so.so_far ++ rows_of d f ≡ rows_of count first) come so.rows;
        last = subst (λ (d : ℕ). last_of d f ≡ last_of count first) come so.last;
      }

  module _ (none : digits ≡ 0) where
    -- all the rows, and the last
    pub stepping_all : Puts begin page (rows_of count first)
    unfolding rows_of
    stepping_all = puts_as so.put (sym (append-nil so.so_far) ∙ subst (λ (d : ℕ). so.so_far ++ rows_of d f ≡ rows_of count first) none so.rows)

    pub stepping_last : f ≡ last_of count first
    unfolding last_of
    stepping_last = subst (λ (d : ℕ). last_of d f ≡ last_of count first) none so.last
