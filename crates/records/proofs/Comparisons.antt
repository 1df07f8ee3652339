-- What `<`, `<=`, `>` and `>=` answer where values are ordered by a float of theirs, as records are by their real part: the float's own comparison. Assumes nothing.
use mathlib.Core.Path.{◌≡◌, refl, ap, ◌∙◌}
use Rattle.std.specs.Prelude.{Bool, true, false, cond, T, ◌||◌, Float}
use Rattle.std.specs.Float.Ieee.{lt, le, eq}
use Rattle.std.specs.Float.Order as floats
use Rattle.std.specs.Float.Cmp.{floats_per}
use Rattle.std.specs.declared.cmp.Ordering.{Ordering}
use Rattle.std.specs.declared.cmp.Ordering.TheVariants.{Less, Equal, Greater}
use Rattle.std.specs.declared.option.Option.{Option}
use Rattle.std.specs.declared.option.Option.TheVariants.{None, Some}
use Rattle.std.specs.Ordering.{is_lt, is_le, is_gt, is_ge, is_some_and, partial_lt, partial_le, partial_gt, partial_ge, float_partial_cmp}

-- the answer from whether the first is less, equal or greater
abbrev answer : Bool → Bool → Bool → Option Ordering
answer a e b = cond a (Some Less) (cond e (Some Equal) (cond b (Some Greater) None))

less : (a e b : Bool) → is_some_and is_lt (answer a e b) ≡ a
less true e b = refl
less false true b = refl
less false false true = refl
less false false false = refl

less_or_equal : (a e b : Bool) → is_some_and is_le (answer a e b) ≡ (a || e)
less_or_equal true e b = refl
less_or_equal false true b = refl
less_or_equal false false true = refl
less_or_equal false false false = refl

greater : (a e b : Bool) → (T a → ¬ (T b)) → (T e → ¬ (T b)) → is_some_and is_gt (answer a e b) ≡ b
greater true e true f g = absurd (f tt tt)
greater true e false f g = refl
greater false true true f g = absurd (g tt tt)
greater false true false f g = refl
greater false false true f g = refl
greater false false false f g = refl

greater_or_equal : (a e b : Bool) → (T a → ¬ (T b)) → (T e → ¬ (T a)) → is_some_and is_ge (answer a e b) ≡ (b || e)
greater_or_equal true true b f g = absurd (g tt tt)
greater_or_equal true false true f g = absurd (f tt tt)
greater_or_equal true false false f g = refl
greater_or_equal false true true f g = refl
greater_or_equal false true false f g = refl
greater_or_equal false false true f g = refl
greater_or_equal false false false f g = refl

-- re is what x and y are ordered by, C what the order answers
module _ {K : Type 0} (re : K → Float) (C : K → K → Option Ordering) (ordered : (x y : K) → C x y ≡ float_partial_cmp (re x) (re y)) (x y : K) where
  not_both : T (lt (re x) (re y)) → ¬ (T (lt (re y) (re x)))
  not_both h k = floats.lt_irrefl (re x) (floats.lt_trans (re x) (re y) (re x) h k)

  pub lt_by : partial_lt C x y ≡ lt (re x) (re y)
  lt_by = ap (is_some_and is_lt) (ordered x y) ∙ less (lt (re x) (re y)) (eq (re x) (re y)) (lt (re y) (re x))

  pub le_by : partial_le C x y ≡ le (re x) (re y)
  unfolding le
  le_by = ap (is_some_and is_le) (ordered x y) ∙ less_or_equal (lt (re x) (re y)) (eq (re x) (re y)) (lt (re y) (re x))

  pub gt_by : partial_gt C x y ≡ lt (re y) (re x)
  gt_by =
      ap (is_some_and is_gt) (ordered x y)
      ∙ greater (lt (re x) (re y)) (eq (re x) (re y)) (lt (re y) (re x)) not_both (λ e. floats.eq-not_lt (re y) (re x) (floats.eq_flip (re x) (re y) e))

  pub ge_by : partial_ge C x y ≡ le (re y) (re x)
  unfolding le
  ge_by =
      ap (is_some_and is_ge) (ordered x y)
      ∙ greater_or_equal (lt (re x) (re y)) (eq (re x) (re y)) (lt (re y) (re x)) not_both (floats.eq-not_lt (re x) (re y))
      ∙ ap (λ (e : Bool). lt (re y) (re x) || e) (floats_per.symm (re x) (re y))
