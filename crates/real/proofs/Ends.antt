-- `sqrt`: the floats that are answered without a root, and that the others have a pattern from 1 up and below the infinity's. Assumes nothing.
use mathlib.Core.Path.{◌≡◌, refl, sym, ap, ◌∙◌, subst}
use mathlib.Core.Logic.{inl, inr}
use Prim.Native.Nat.{ℕ, zero, suc, ◌*◌, ◌^◌, ◌≤◌, ◌<◌}
use native.Mathlib.Nat.{not-le_of_lt, lt_irrefl, eq-zero-or-pos, mul-pos, mul-one, one-mul, zero-mul, zero-lt-suc, pow-succ'}
use native.Mathlib.Omega.{arith}
use mathlib.Core.Bool.{Bool, true, false, not, beq, ◌&&◌, ◌||◌, true≢false}
use lib.IntN.{ℤ, pos, negsuc}
use lib.Dec.{T, eqb, eqb→eq, lt→ltb}
use lib.Pow.{pow_pos}
use lib.Ieee.{Float, nan, inf, fin, binary64, up, down, fits, of_bits, to_bits, is_nan, lt, eq, div}
use lib.Ieee.Fits.{up_pos, and_l, eq→eqb}
use lib.Ieee.Bits.{of_bits-to_bits}
use Rattle.real.specs.Root.{root_of}
use Rattle.real.proofs.Patterns.{finite_bits}

holds : {b : Bool} → b ≡ true → T b
holds h = subst T (sym h) tt

-- a float's format holds it, as what is known of a parameter says it
abbrev pub Held : Float → Type 0
Held x = fits binary64 x ≡ true

-- 0.0, as MIR has it
abbrev nought : Float
nought = of_bits binary64 0

-- ---- above zero
pub above_no_nan : (x : Float) → lt nought x ≡ true → T (not (is_nan x))
unfolding lt is_nan of_bits
above_no_nan nan h = holds h
above_no_nan (inf s) h = tt
above_no_nan (fin s m e) h = tt

not_above_itself : lt nought nought ≡ true → ⊥
unfolding lt of_bits
not_above_itself h = true≢false (sym h)

pub above_bits : (x : Float) → Held x → lt nought x ≡ true → 0 < to_bits binary64 x
above_bits x f h = elim (eq-zero-or-pos (to_bits binary64 x)) [
  | inl z ↦ absurd (not_above_itself (subst (λ (y : Float). lt nought y ≡ true) (sym (of_bits-to_bits binary64 x (holds f)) ∙ ap (of_bits binary64) z) h))
  | inr p ↦ p
]

pub above_infinite : (x : Float) → Held x → lt nought x ≡ true → 9218868437227405312 ≤ to_bits binary64 x → x ≡ root_of binary64 x
unfolding lt of_bits root_of
above_infinite nan f h b = absurd (holds h)
above_infinite (inf true) f h b = absurd (holds h)
above_infinite (inf false) f h b = refl
above_infinite (fin true m e) f h b = absurd (holds h)
above_infinite (fin false m e) f h b = absurd (not-le_of_lt (finite_bits m e (holds f)) b)

-- ---- a zero
power : (x y : ℕ) → x ≡ 2 * y → 0 < y → x ≡ 1 → ⊥
power x y e p h = omega arith

plain : (e : ℤ) → up e * down e ≡ 1 → e ≡ pos 0
plain (pos zero) h = refl
plain (pos (suc a)) h = absurd (power (2 ^ suc a) (2 ^ a) (pow-succ' 2 a) (pow_pos a) (sym (mul-one (2 ^ suc a)) ∙ h))
plain (negsuc a) h = absurd (power (2 ^ suc a) (2 ^ a) (pow-succ' 2 a) (pow_pos a) (sym (one-mul (2 ^ suc a)) ∙ h))

root_zero : root_of binary64 (fin false 0 (pos 0)) ≡ fin false 0 (pos 0)
unfolding root_of
root_zero = refl

some : (m : ℕ) (e d : ℤ) → suc m * up e * 1 ≡ 0 * 1 * down d → ⊥
some m e d h = lt_irrefl 0 (subst (λ (x : ℕ). 0 < x) (h ∙ none (down d)) (mul-pos (mul-pos (zero-lt-suc m) (up_pos e)) (zero-lt-suc 0)))
  where
    none : (x : ℕ) → 0 * 1 * x ≡ 0
    none x = zero-mul x

exponent : (s : Bool) (e : ℤ) → T (fits binary64 (fin s 0 e)) → e ≡ pos 0
unfolding fits
exponent s e h = plain e (eqb→eq (up e * down e) 1 h)

pub zero_root : (x : Float) → Held x → eq x nought ≡ true → x ≡ root_of binary64 x
unfolding eq of_bits
zero_root nan f h = absurd (holds h)
zero_root (inf s) f h = absurd (holds h)
zero_root (fin true zero e) f h = unfold root_of in refl
zero_root (fin true (suc m) e) f h = absurd (some m e e (eqb→eq (suc m * up e * 1) (0 * 1 * down e) (and_l (eqb (suc m * up e * 1) (0 * 1 * down e)) (false || eqb (suc m * up e * 1) 0) (holds h))))
zero_root (fin false zero e) f h = subst (λ (d : ℤ). fin false 0 d ≡ root_of binary64 (fin false 0 d)) (sym (exponent false e (holds f))) (sym root_zero)
zero_root (fin false (suc m) e) f h = absurd (some m e e (eqb→eq (suc m * up e * 1) (0 * 1 * down e) (and_l (eqb (suc m * up e * 1) (0 * 1 * down e)) true (holds h))))

-- ---- neither
quotient_is : div binary64 nought nought ≡ nan
unfolding div of_bits
quotient_is = refl

both_zero : (e : ℤ) → 0 * up e * 1 ≡ 0 * 1 * down e
both_zero e = ap (λ (x : ℕ). x * 1) (zero-mul (up e)) ∙ sym (zero-mul (down e))

below_all : (m : ℕ) (e : ℤ) → 0 * 1 * down e < suc m * up e * 1
below_all m e = subst (λ (x : ℕ). x < suc m * up e * 1) (sym (zero-mul (down e))) (mul-pos (mul-pos (zero-lt-suc m) (up_pos e)) (zero-lt-suc 0))

clash : {b : Bool} → T b → b ≡ false → ⊥
clash t h = subst T h t

join : (a b : Bool) → T a → T b → T (a && b)
join true b t u = u
join false b t u = t

either : (a b : Bool) → T b → T (a || b)
either true b t = tt
either false b t = t

pub level_zero : (s : Bool) (e : ℤ) → T (eq (fin s 0 e) nought)
unfolding eq of_bits
level_zero s e = join (eqb (0 * up e * 1) (0 * 1 * down e)) (beq s false || eqb (0 * up e * 1) 0) (eq→eqb (both_zero e)) (either (beq s false) (eqb (0 * up e * 1) 0) (eq→eqb (ap (λ (x : ℕ). x * 1) (zero-mul (up e)))))

pub other_root : (x : Float) → lt nought x ≡ false → eq x nought ≡ false → div binary64 nought nought ≡ root_of binary64 x
unfolding lt of_bits root_of
other_root nan a b = quotient_is
other_root (inf true) a b = quotient_is
other_root (inf false) a b = absurd (clash tt a)
other_root (fin true zero e) a b = absurd (clash (level_zero true e) b)
other_root (fin true (suc m) e) a b = quotient_is
other_root (fin false zero e) a b = absurd (clash (level_zero false e) b)
other_root (fin false (suc m) e) a b = absurd (clash (lt→ltb (0 * 1 * down e) (suc m * up e * 1) (below_all m e)) a)
