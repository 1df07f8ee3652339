-- A whole number that was written is read back as it is, -0 as +0, and one below zero is no -0. Assumes nothing.
use Prim.Native.Nat.{ℕ, zero, suc, ◌+◌, ◌*◌, ◌<◌, ◌≤◌}
use mathlib.Core.Path.{◌≡◌, refl, sym, ap, ◌∙◌}
use mathlib.Core.Bool.{Bool, true, false, cond, not, ◌||◌, beq, true≢false}
use native.Mathlib.Nat.{mul-one, mul_right_comm, eq_of_mul-eq-mul_right}
use native.Mathlib.Omega.{arith}
use lib.Dec.{T, eqb}
use lib.IntN.{ℤ, pos}
use lib.Ieee.{Float, nan, inf, fin, binary64, up, down, neg, lt, eq, level, of_int, fits}
use lib.Ieee.Fits.{of_int-fits, neg-fits, down_pos}
use lib.Ieee.Exact.{HasValue}
use lib.Ieee.Back.{whole_unique}
use borrow.Author.Tests.{eqb-true, ltb-true, ltb-false, lt-ltb}
use Rattle.refusals.specs.Largest as largest
use Rattle.real.specs.Operations as float
use Rattle.texts.proofs.Every.{both_true}
use Rattle.market.specs.Format.{signed}
use Rattle.market.specs.Text.{magnitude, whole_part, is_whole}
use Rattle.market.proofs.WholeFloats.{plus_nothing, zero_is, has_value, of_zero, magnitude_plain, magnitude_minus, whole_small, whole_same, back_of}

-- equal values: y is v, and x compares equal to it, so x is v, of whatever sign where v is 0
cross : (a e b d v : ℕ) → 0 < e → a * 1 ≡ v * e → a * d ≡ b * e → b * 1 ≡ v * d
cross a e b d v h p q =
    eq_of_mul-eq-mul_right e h (b * 1) (v * d)
    (ap (λ (x : ℕ). x * e) (mul-one b) ∙ sym q ∙ ap (λ (x : ℕ). x * d) (sym (mul-one a) ∙ p) ∙ mul_right_comm v e d)

nothing : (g : ℤ) → 0 * up (pos 0) * down g ≡ 0
nothing g = omega arith

vanish : (v d : ℕ) → 0 < d → v * d ≡ 0 → v ≡ 0
vanish zero d h e = refl
vanish (suc v) d h e = absurd (let z : suc v * d ≡ v * d + d = omega arith in omega arith)

-- x compares equal to the float of v, so it is finite and v in size
equal_value : (y : Float) (v : ℕ) → HasValue y false v 1 → (s : Bool) (k : ℕ) (g : ℤ) → eq y (fin s k g) ≡ true → k * up g * 1 ≡ v * down g
unfolding eq
equal_value nan v h s k g q = elim h [ ]
equal_value (inf _) v h s k g q = elim h [ ]
equal_value (fin t m e) v h s k g q =
    cross (m * up e) (down e) (k * up g) (down g) v (down_pos e) h.1 (eqb-true (m * up e * down g) (k * up g * down e) (both_true (eqb (m * up e * down g) (k * up g * down e)) (beq t s || eqb (m * up e * down g) 0) q).0)

not_nan : (y : Float) (v : ℕ) → HasValue y false v 1 → eq y nan ≡ true → ⊥
unfolding eq
not_nan nan v h q = elim h [ ]
not_nan (inf _) v h q = elim h [ ]
not_nan (fin t m e) v h q = true≢false (sym q)

not_inf : (y : Float) (v : ℕ) (s : Bool) → HasValue y false v 1 → eq y (inf s) ≡ true → ⊥
unfolding eq
not_inf nan v s h q = elim h [ ]
not_inf (inf _) v s h q = elim h [ ]
not_inf (fin t m e) v s h q = true≢false (sym q)

-- x with -0 as +0
unfoldable pub plus_zero : Float → Float
plus_zero x = cond (eq x float.zero) float.zero x

module _ (v : ℕ) (small : v ≤ largest.whole) where
  has : HasValue (of_int binary64 (pos v)) false v 1
  has = has_value v small

  -- a number that is not below zero
  plain_by : (k : ℕ) (g : ℤ) (b : Bool) → T (fits binary64 (fin false k g)) → k * up g * 1 ≡ v * down g → eq (fin false k g) plus_nothing ≡ b → of_int binary64 (pos v) ≡ cond b plus_nothing (fin false k g)
  unfolding eq
  plain_by k g true f q e = of_zero v (vanish v (down g) (down_pos g) (sym q ∙ eqb-true (k * up g * down (pos 0)) (0 * up (pos 0) * down g) (both_true (eqb (k * up g * down (pos 0)) (0 * up (pos 0) * down g)) (beq false false || eqb (k * up g * down (pos 0)) 0) e).0 ∙ nothing g))
  plain_by k g false f q e = whole_unique binary64 (of_int binary64 (pos v)) (fin false k g) false v (of_int-fits binary64 (pos v)) f has (refl, q)

  minus_zero : (k : ℕ) (g : ℤ) → k * up g * 1 ≡ v * down g → lt (fin true k g) plus_nothing ≡ false → of_int binary64 (pos v) ≡ cond (eq (fin true k g) plus_nothing) plus_nothing (fin true k g)
  unfolding lt eq
  minus_zero k g q e =
      let n = nothing g in
      let a : k * up g * down (pos 0) ≡ 0 = (let h : k * up g * down (pos 0) + 0 * up (pos 0) * down g ≤ 0 = ltb-false 0 (k * up g * down (pos 0) + 0 * up (pos 0) * down g) e in omega arith) in
      of_zero v (vanish v (down g) (down_pos g) (sym q ∙ a))
      ∙ (λ i. cond (level true (sym a i) false (sym n i)) plus_nothing (fin true k g))

  plain : (x : Float) → T (fits binary64 x) → lt x plus_nothing ≡ false → eq (of_int binary64 (pos v)) x ≡ true → of_int binary64 (pos v) ≡ cond (eq x plus_nothing) plus_nothing x
  plain nan f l e = absurd (not_nan (of_int binary64 (pos v)) v has e)
  plain (inf s) f l e = absurd (not_inf (of_int binary64 (pos v)) v s has e)
  plain (fin false k g) f l e = plain_by k g (eq (fin false k g) plus_nothing) f (equal_value (of_int binary64 (pos v)) v has false k g e) refl
  plain (fin true k g) f l e = minus_zero k g (equal_value (of_int binary64 (pos v)) v has true k g e) l

  -- a number below zero
  below_some : (k : ℕ) (g : ℤ) → k * up g * 1 ≡ v * down g → lt (fin true k g) plus_nothing ≡ true → 0 < v
  unfolding lt
  below_some k g q l =
      let n = nothing g in
      let h : 0 < k * up g * down (pos 0) + 0 * up (pos 0) * down g = ltb-true 0 (k * up g * down (pos 0) + 0 * up (pos 0) * down g) l in
      let other : v ≡ 0 → ⊥ = (λ z. let w : v * down g ≡ 0 = ap (λ (x : ℕ). x * down g) z ∙ (let y : 0 * down g ≡ 0 = omega arith in y) in omega arith) in
      omega arith

  minus_by : (k : ℕ) (g : ℤ) (b : Bool) → T (fits binary64 (fin false k g)) → k * up g * 1 ≡ v * down g → lt (fin true k g) plus_nothing ≡ true → eq (fin true k g) plus_nothing ≡ b → signed true v ≡ cond b plus_nothing (fin true k g)
  unfolding lt eq signed neg
  minus_by k g true f q l e =
      let n = nothing g in
      let a : k * up g * down (pos 0) ≡ 0 * up (pos 0) * down g = eqb-true (k * up g * down (pos 0)) (0 * up (pos 0) * down g) (both_true (eqb (k * up g * down (pos 0)) (0 * up (pos 0) * down g)) (beq true false || eqb (k * up g * down (pos 0)) 0) e).0 in
      absurd (let h : 0 < k * up g * down (pos 0) + 0 * up (pos 0) * down g = ltb-true 0 (k * up g * down (pos 0) + 0 * up (pos 0) * down g) l in omega arith)
  minus_by k g false f q l e =
      ap (λ (t : Bool). cond t (neg (of_int binary64 (pos v))) (of_int binary64 (pos v))) (lt-ltb 0 v (below_some k g q l))
      ∙ ap neg (whole_unique binary64 (of_int binary64 (pos v)) (fin false k g) false v (of_int-fits binary64 (pos v)) f has (refl, q))

  not_above : (k : ℕ) (g : ℤ) → lt (fin false k g) plus_nothing ≡ true → ⊥
  unfolding lt
  not_above k g l = let n = nothing g in let h : k * up g * down (pos 0) < 0 * up (pos 0) * down g = ltb-true (k * up g * down (pos 0)) (0 * up (pos 0) * down g) l in omega arith

  below : (x : Float) → T (fits binary64 x) → lt x plus_nothing ≡ true → eq (of_int binary64 (pos v)) (neg x) ≡ true → signed true v ≡ cond (eq x plus_nothing) plus_nothing x
  unfolding neg lt
  below nan f l e = absurd (true≢false (sym l))
  below (inf s) f l e = absurd (not_inf (of_int binary64 (pos v)) v (not s) has e)
  below (fin false k g) f l e = absurd (not_above k g l)
  below (fin true k g) f l e = minus_by k g (eq (fin true k g) plus_nothing) (neg-fits binary64 (fin true k g) f) (equal_value (of_int binary64 (pos v)) v has false k g e) l refl

  below_value : (x : Float) → lt x plus_nothing ≡ true → eq (of_int binary64 (pos v)) (neg x) ≡ true → 0 < v
  unfolding neg lt
  below_value nan l e = absurd (true≢false (sym l))
  below_value (inf s) l e = absurd (not_inf (of_int binary64 (pos v)) v (not s) has e)
  below_value (fin false k g) l e = absurd (not_above k g l)
  below_value (fin true k g) l e = below_some k g (equal_value (of_int binary64 (pos v)) v has false k g e) l

-- a whole number below zero is not -0
pub minus_some : (x : Float) → is_whole x ≡ true → lt x float.zero ≡ true → 0 < whole_part (magnitude x)
minus_some x e l =
    below_value (whole_part (magnitude x)) (whole_small x e) x (ap (lt x) (sym zero_is) ∙ l) (ap (eq (of_int binary64 (pos (whole_part (magnitude x))))) (magnitude_minus x l) ∙ whole_same x e)

-- a whole number that is written is read back as it is, -0 as +0
pub back_is : (x : Float) → T (fits binary64 x) → is_whole x ≡ true → back_of x ≡ plus_zero x
unfolding plus_zero signed
back_is x f e = by (lt x float.zero) refl
  where
    by : (t : Bool) → lt x float.zero ≡ t → signed (lt x float.zero) (whole_part (magnitude x)) ≡ cond (eq x float.zero) float.zero x
    by false l =
        ap (λ (s : Bool). signed s (whole_part (magnitude x))) l
        ∙ plain (whole_part (magnitude x)) (whole_small x e) x f (ap (lt x) (sym zero_is) ∙ l) (ap (eq (of_int binary64 (pos (whole_part (magnitude x))))) (magnitude_plain x l) ∙ whole_same x e)
        ∙ ap (λ (z : Float). cond (eq x z) z x) (sym zero_is)
    by true l =
        ap (λ (s : Bool). signed s (whole_part (magnitude x))) l
        ∙ below (whole_part (magnitude x)) (whole_small x e) x f (ap (lt x) (sym zero_is) ∙ l) (ap (eq (of_int binary64 (pos (whole_part (magnitude x))))) (magnitude_minus x l) ∙ whole_same x e)
        ∙ ap (λ (z : Float). cond (eq x z) z x) (sym zero_is)
