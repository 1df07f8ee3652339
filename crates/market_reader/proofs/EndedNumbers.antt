-- A number and the byte that ends it, or neither: what the code found of them is what the definitions ask of the text. Assumes nothing.
use Prim.Native.Nat.{ℕ}
use mathlib.Core.Path.{◌≡◌, sym, ap, ◌∙◌}
use mathlib.Core.Bool.{Bool, true, false, not, ◌&&◌}
use mathlib.Core.List.{List}
use lib.Dec.{eqb}
use lib.ListN.{length, drop}
use Rattle.std.specs.Borrow.{Bor}
use Rattle.std.specs.Prelude.{Option, Some, None, Result, Ok, Err, MatchOption}
use Rattle.std.specs.Option.{ok_or}
use Rattle.refusals.specs.declared.Refusal.{Refusal}
use Rattle.texts.specs.declared.whole.Whole.{Whole}
use Rattle.texts.specs.Digits.{byte_at, is_digit}
use Rattle.texts.specs.Whole.{past, Found}
use Rattle.texts.proofs.WholeNumbers.{front_some}

-- what the definitions ask
abbrev pub ends : List ℕ → ℕ → Bool
ends text end = is_digit 10 (byte_at text 0) && eqb (byte_at (past text) 0) end

-- what the code asked
abbrev ended : Whole → ℕ → Bool
ended w end = not (eqb (length w.digits.now) 0) && eqb (byte_at w.rest.now 0) end

module _ (most : ℕ) (text : List ℕ) (w : Whole) (found : Found most text w) (end : ℕ) where
  same_end : ended w end ≡ ends text end
  same_end =
      ap (λ (l : List ℕ). not (eqb (length l) 0) && eqb (byte_at w.rest.now 0) end) found.digits
      ∙ ap (λ (t : Bool). t && eqb (byte_at w.rest.now 0) end) (front_some text)
      ∙ ap (λ (l : List ℕ). is_digit 10 (byte_at text 0) && eqb (byte_at l 0) end) found.rest

  -- `?` on that answer, with a refusal in place of none
  pub not_ended : (r : Option (Bor (List ℕ))) (refusal e : Refusal) → MatchOption r (ended w end ≡ false) (λ rest. (ended w end ≡ true) × (rest.now ≡ drop 1 w.rest.now)) → ◌≡◌ {A = Result (Bor (List ℕ)) Refusal} (Err e) (ok_or r refusal)
      → (e ≡ refusal) × (ends text end ≡ false)
  not_ended None refusal e told given = (cc, sym same_end ∙ told)
  not_ended (Some x) refusal e told given = absurd (cc)

  pub is_ended : (r : Option (Bor (List ℕ))) (refusal : Refusal) (rest : Bor (List ℕ)) → MatchOption r (ended w end ≡ false) (λ rest. (ended w end ≡ true) × (rest.now ≡ drop 1 w.rest.now)) → ◌≡◌ {A = Result (Bor (List ℕ)) Refusal} (Ok rest) (ok_or r refusal)
      → (ends text end ≡ true) × (rest.now ≡ drop 1 (past text))
  is_ended None refusal rest told given = absurd (cc)
  is_ended (Some x) refusal rest told given =
      let same : rest ≡ x = cc in
      (sym same_end ∙ told.0, ap (λ (y : Bor (List ℕ)). y.now) same ∙ told.1 ∙ ap (drop 1) found.rest)
