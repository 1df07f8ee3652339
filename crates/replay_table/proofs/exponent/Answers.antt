-- A word is a number of 32 bits near either end of the words; between them it is none.
use Prim.Native.Nat.{ℕ, ◌<◌, ◌^◌}
use mathlib.Core.Path.{◌≡◌, ◌∙◌}
use Rattle.std.proofs.Common.{arith, rules, Result, Ok, Err}
use Rattle.std.specs.Result.{OkIff, result_unwrap_or}
use Rattle.replay_table.specs.Table.{exponent_of}
use lib.IntN.{ℤ, pos}
use lib.Signed.{mag}
use mir.Syntax.{w32, w64}
use mir.Val.{SFits, to_z, of_z}
use mir.ValLaws.{to_z-of_z}
use Rattle.replay_table.proofs.exponent.Goals as goal

fits : (w : ℕ) → w < 2 ^ 64 → SFits w32 (to_z w64 w) → to_z w64 w ≡ exponent_of w
unfolding exponent_of
fits w h s = grind (arith, s.sfits)

fits_not : (w : ℕ) → w < 2 ^ 64 → (SFits w32 (to_z w64 w) → ⊥) → pos 0 ≡ exponent_of w
unfolding exponent_of
fits_not w h s =
    let t : mag (to_z w64 w) < 2147483648 → ⊥ = λ l. s (record { sfits = l }) in
    grind (arith, t)

-- the number, or 0 where it is none of 32 bits
told : {E : Type 0} (w : ℕ) → w < 2 ^ 64 → (z : ℤ) → z ≡ to_z w64 w → (r : Result ℤ E) → OkIff r (SFits w32 z) z → result_unwrap_or r (pos 0) ≡ exponent_of w
told w h z e (Ok x) (s, g) = g ∙ e ∙ fits w h (rw (← e) s)
told w h z e (Err _) s = fits_not w h (λ t. s (rw e t))

pub returns : goal.returns
returns c =
    let z : to_z w64 (of_z w64 c.cast_signed.result) ≡ c.cast_signed.result = to_z-of_z w64 _ (record { sfits = c.cast_signed.type_inv }) in
    let u : to_z w32 (of_z w32 c.unwrap_or.result) ≡ c.unwrap_or.result = to_z-of_z w32 _ (record { sfits = c.unwrap_or.type_inv }) in
    u ∙ c.unwrap_or.ensures ∙ told c.args.w (search rules) _ (z ∙ c.cast_signed.ensures) c.try_from.result c.try_from.ensures
