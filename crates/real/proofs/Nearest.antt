-- At most one float is nearest to a root; and `root_of` of a finite float above zero is it. Assumes nothing.
use mathlib.Core.Path.{◌≡◌, refl, sym, ap, ◌∙◌, subst}
use mathlib.Core.Logic.{◌⊎◌, inl, inr}
use Prim.Native.Nat.{ℕ, zero, suc, ◌+◌, ◌-◌, ◌*◌, ◌/◌, ◌%◌, ◌^◌, ◌≤◌, ◌<◌}
use native.Mathlib.Nat.{le_trans, le_of_eq, le_of_lt, le_of_suc-le-suc, lt_of_lt_of_le, lt_of_le_of_lt, lt_of_not-le, not-le_of_lt, lt_irrefl, le_antisymm, eq-or-lt_of_le, add-mul, mul_assoc, mul-one, mul-mul-mul_comm, mul-le-mul, mul-le-mul_right, mul-pos, mul-lt-mul_of_pos_right, lt_of_mul-lt-mul_right, mul-div_cancel, div-one, pow-succ'}
use native.Mathlib.Omega.{arith}
use native.Mathlib.Decide.{dec_le}
use mathlib.Core.Bool.{true, false, ◌&&◌, true≢false}
use lib.IntN.{ℤ, pos, negsuc}
use lib.Dec.{T, leb, ltb, eqb, leb→le, ltb→lt}
use lib.Pow.{pow-add, pow_pos, pow_mono}
use lib.Ieee.{Float, nan, inf, fin, Format, prec, emax, low, up, down, units, fits, of_bits}
use lib.Ieee.Digits.{back}
use lib.Ieee.Fits.{down_pos, and_l, and_r, odd-fits, two, two-le_pos}
use lib.Ieee.Bits.{of_bits-to_bits}
use lib.Ieee.Exact.{HasValue, units_val}
use Rattle.real.specs.Nearest.{count, IsNearest}
use Rattle.real.proofs.Squares.{square_suc, square_middle}
use Rattle.real.proofs.Patterns.{units_is, to_bits_is}

-- ---- one value only

same_count : (f : Format) (m : ℕ) (e : ℤ) (n : ℕ) (d : ℤ) → T (fits f (fin false m e)) → T (fits f (fin false n d)) → count f m e ≡ count f n d → fin false m e ≡ fin false n d
same_count f m e n d h k c =
    sym (of_bits-to_bits f (fin false m e) h)
    ∙ ap (of_bits f) (to_bits_is f false m e (count f n d) c ∙ sym (to_bits_is f false n d (count f n d) refl))
    ∙ of_bits-to_bits f (fin false n d) k

apart : (a b n : ℕ) → (a < b → 4 * n < (a + b) * (a + b)) → (a < b → (b + a) * (b + a) < 4 * n) → a < b → ⊥
apart a b n up down h = lt_irrefl (4 * n) (lt_of_lt_of_le (up h) (le_trans (le_of_eq (ap (λ (x : ℕ). x * x) (turn a b))) (le_of_lt (down h))))
  where
    turn : (a b : ℕ) → a + b ≡ b + a
    turn a b = omega arith

pub nearest_unique : (f : Format) (n : ℕ) (r s : Float) → IsNearest f n r → IsNearest f n s → r ≡ s
nearest_unique f n nan s h k = absurd h
nearest_unique f n (inf t) s h k = absurd h
nearest_unique f n (fin true m e) s h k = absurd h
nearest_unique f n (fin false m e) nan h k = absurd k
nearest_unique f n (fin false m e) (inf t) h k = absurd k
nearest_unique f n (fin false m e) (fin true j d) h k = absurd k
nearest_unique f n (fin false m e) (fin false j d) h k =
    let a = count f m e in
    let b = count f j d in
    same_count f m e j d h.0 k.0
    (le_antisymm
    (le_of_suc-le-suc (lt_of_not-le (λ (g : suc b ≤ a). apart b a n (k.1 m e h.0).1 (h.1 j d k.0).0 g)))
    (le_of_suc-le-suc (lt_of_not-le (λ (g : suc a ≤ b). apart a b n (h.1 j d k.0).1 (k.1 m e h.0).0 g))))

-- ---- what a format holds, counted in units: a number of `prec` digits with zeros after it

pow_le_back : (a l : ℕ) → 2 ^ a ≤ 2 ^ l → a ≤ l
pow_le_back a l h = le_of_suc-le-suc (lt_of_not-le (λ (g : suc l ≤ a). not-le_of_lt (lt_of_lt_of_le (mul_two l) (pow_mono g)) h))
  where
    mul_two : (l : ℕ) → 2 ^ l < 2 ^ suc l
    mul_two l = omega (arith, pow-succ' 2 l, pow_pos l)

place : (l : ℕ) (e : ℤ) → down e ≤ 2 ^ l → (j : ℕ) × ((m : ℕ) → m * up e * 2 ^ l / down e ≡ m * 2 ^ j)
place l (pos a) h = (a + l, λ m. div-one (m * 2 ^ a * 2 ^ l) ∙ mul_assoc m (2 ^ a) (2 ^ l) ∙ ap (λ (x : ℕ). m * x) (sym (pow-add 2 a l)))
place l (negsuc a) h =
    let le : suc a ≤ l = pow_le_back (suc a) l h in (
      l - suc a,
      λ m.
          ap (λ (x : ℕ). x * 2 ^ l / 2 ^ suc a) (mul-one m)
          ∙ ap (λ (x : ℕ). m * x / 2 ^ suc a) (ap (λ (x : ℕ). 2 ^ x) (sym (back l (suc a) le)) ∙ pow-add 2 (l - suc a) (suc a))
          ∙ ap (λ (x : ℕ). x / 2 ^ suc a) (sym (mul_assoc m (2 ^ (l - suc a)) (2 ^ suc a)))
          ∙ mul-div_cancel (m * 2 ^ (l - suc a)) (pow_pos (suc a)),
    )

counted : (f : Format) (m : ℕ) (e : ℤ) → T (fits f (fin false m e)) → (c : ℕ) × (j : ℕ) × (c < 2 ^ prec f) × (count f m e ≡ c * 2 ^ j)
unfolding fits
counted f zero e h = (0, 0, pow_pos (prec f), nothing (up e) (2 ^ low f) (down e) (down_pos e))
  where
    nothing : (u l d : ℕ) → 0 < d → 0 * u * l / d ≡ 0 * 2 ^ 0
    nothing u l d p = ap (λ (x : ℕ). x * l / d) (zero_by u) ∙ ap (λ (x : ℕ). x / d) (zero_by l ∙ sym (zero_by d)) ∙ mul-div_cancel 0 p
      where
        zero_by : (u : ℕ) → 0 * u ≡ 0
        zero_by u = omega arith
counted f (suc m) e h =
    let A = eqb (suc m % 2) 1 in
    let B = ltb (suc m) (2 ^ prec f) in
    let C = leb (down e) (2 ^ low f) in
    let D = ltb (suc m * up e) (2 ^ suc (emax f) * down e) in
    let p = place (low f) e (leb→le (down e) (2 ^ low f) (and_r (A && B) C (and_l (A && B && C) D h))) in
    (suc m, p.0, ltb→lt (suc m) (2 ^ prec f) (and_r A B (and_l (A && B) C (and_l (A && B && C) D h))), p.1 (suc m))

-- ---- such a number against a multiple of 2 ^ k that has all its digits

-- c * 2 ^ j is a multiple of 2 ^ k, or below h * 2 ^ k
grid : (p c j k : ℕ) → 0 < p → c < 2 ^ p → ((i : ℕ) × (c * 2 ^ j ≡ i * 2 ^ k)) ⊎ (c * 2 ^ j < 2 ^ (p - 1) * 2 ^ k)
grid p c j k P h = go (dec_le k j)
  where
    fewer : (p j k : ℕ) → 0 < p → (k ≤ j → ⊥) → p + j ≤ p - 1 + k
    fewer p j k P g = omega arith

    go : Dec (k ≤ j) → ((i : ℕ) × (c * 2 ^ j ≡ i * 2 ^ k)) ⊎ (c * 2 ^ j < 2 ^ (p - 1) * 2 ^ k)
    go (yes g) = inl (c * 2 ^ (j - k), ap (λ (x : ℕ). c * 2 ^ x) (sym (back j k g)) ∙ ap (λ (x : ℕ). c * x) (pow-add 2 (j - k) k) ∙ sym (mul_assoc c (2 ^ (j - k)) (2 ^ k)))
    go (no g) =
        inr
        (lt_of_lt_of_le (mul-lt-mul_of_pos_right h (pow_pos j))
        (le_trans (le_of_eq (sym (pow-add 2 p j))) (le_trans (pow_mono (fewer p j k P g)) (le_of_eq (pow-add 2 (p - 1) k)))))

scaled : (a u : ℕ) → a * u * (a * u) ≡ a * a * (u * u)
scaled a u = mul-mul-mul_comm a u a u

square_le : (a b : ℕ) → a ≤ b → a * a ≤ b * b
square_le a b h = mul-le-mul h h

module _ (h R r u : ℕ) (U : 0 < u) (lo : h * h ≤ R) (H : h ≤ r) (near : r * r < R + r) (far : R ≤ r * r + r) where
  n : ℕ
  n = R * (u * u)

  four : 4 * (R * (u * u)) ≡ 4 * R * (u * u)
  four = sym (mul_assoc 4 R (u * u))

  -- a value from the next multiple on
  above : (Y : ℕ) → (r + 1) * u ≤ Y → 4 * (R * (u * u)) < (r * u + Y) * (r * u + Y)
  above Y g =
      let wide : (2 * r + 1) * u ≤ r * u + Y = le_trans (le_of_eq (both r)) (add_left g) in
      lt_of_lt_of_le (lt_of_le_of_lt (le_of_eq four) (mul-lt-mul_of_pos_right less (mul-pos U U))) (le_trans (le_of_eq (sym (scaled (2 * r + 1) u))) (square_le ((2 * r + 1) * u) (r * u + Y) wide))
    where
      less : 4 * R < (2 * r + 1) * (2 * r + 1)
      less = omega (arith, square_middle r)

      both : (r : ℕ) → (2 * r + 1) * u ≡ r * u + (r + 1) * u
      both r = omega (arith, add-mul (2 * r) 1 u, add-mul r 1 u, mul_assoc 2 r u)

      add_left : {x : ℕ} → x ≤ Y → r * u + x ≤ r * u + Y
      add_left {x} g = omega arith

  -- a value up to the multiple before
  below : (Y s : ℕ) → r ≡ s + 1 → Y ≤ s * u → (r * u + Y) * (r * u + Y) < 4 * (R * (u * u))
  below Y s e g =
      lt_of_le_of_lt (le_trans (square_le (r * u + Y) ((2 * s + 1) * u) narrow) (le_of_eq (scaled (2 * s + 1) u)))
      (lt_of_lt_of_le (mul-lt-mul_of_pos_right more (mul-pos U U)) (le_of_eq (sym four)))
    where
      more : (2 * s + 1) * (2 * s + 1) < 4 * R
      more = omega (arith, square_middle s, subst (λ (x : ℕ). x * x < R + x) e near, square_suc s)

      narrow : r * u + Y ≤ (2 * s + 1) * u
      narrow = omega (arith, ap (λ (x : ℕ). x * u) e, add-mul s 1 u, add-mul (2 * s) 1 u, mul_assoc 2 s u)

  -- a value with fewer digits, where r is the first number of as many
  first : (Y : ℕ) → r ≡ h → Y < h * u → (r * u + Y) * (r * u + Y) < 4 * (R * (u * u))
  first Y e g =
      lt_of_lt_of_le (square_up (r * u + Y) (2 * h * u) (omega (arith, ap (λ (x : ℕ). x * u) e, mul_assoc 2 h u)))
      (le_trans (le_of_eq (scaled (2 * h) u)) (le_trans (mul-le-mul_right (u * u) (omega (arith, lo, mul-mul-mul_comm 2 h 2 h))) (le_of_eq (sym four))))
    where
      square_up : (a b : ℕ) → a < b → a * a < b * b
      square_up a b l = lt_of_le_of_lt (mul-le-mul (le_of_eq refl) (le_of_lt l)) (mul-lt-mul_of_pos_right l (positive a b l))
        where
          positive : (a b : ℕ) → a < b → 0 < b
          positive a b l = omega arith

  sides : (Y : ℕ) → ((i : ℕ) × (Y ≡ i * u)) ⊎ (Y < h * u) →
      (Y < r * u → (r * u + Y) * (r * u + Y) < 4 * (R * (u * u))) × (r * u < Y → 4 * (R * (u * u)) < (r * u + Y) * (r * u + Y))
  sides Y (inl g) = (
    λ l.
        let less : g.0 < r = lt_of_mul-lt-mul_right u (subst (λ (x : ℕ). x < r * u) g.1 l) in
        below Y (r - 1) (pred r g.0 less) (le_trans (le_of_eq g.1) (mul-le-mul_right u (fore r g.0 less))),
    λ l.
        let more : r < g.0 = lt_of_mul-lt-mul_right u (subst (λ (x : ℕ). r * u < x) g.1 l) in
        above Y (le_trans (mul-le-mul_right u (next r g.0 more)) (le_of_eq (sym g.1))),
  )
    where
      pred : (r i : ℕ) → i < r → r ≡ r - 1 + 1
      pred r i l = omega arith

      fore : (r i : ℕ) → i < r → i ≤ r - 1
      fore r i l = omega arith

      next : (r i : ℕ) → r < i → r + 1 ≤ i
      next r i l = omega arith
  sides Y (inr g) = (
    λ l. elim (eq-or-lt_of_le H) [
      | inl e ↦ first Y (sym e) g
      | inr k ↦ below Y (r - 1) (pred r h k) (le_trans (le_of_lt g) (mul-le-mul_right u (fore r h k)))
    ],
    λ l. absurd (not-le_of_lt l (le_trans (le_of_lt g) (mul-le-mul_right u H))),
  )
    where
      pred : (r i : ℕ) → i < r → r ≡ r - 1 + 1
      pred r i l = omega arith

      fore : (r i : ℕ) → i < r → i ≤ r - 1
      fore r i l = omega arith

-- ---- a float by its count
of_count : (f : Format) (n W : ℕ) (v : Float) → HasValue v false W (2 ^ low f) → T (fits f v)
    → ((y : ℕ) (d : ℤ) → T (fits f (fin false y d)) → (count f y d < W → (W + count f y d) * (W + count f y d) < 4 * n) × (W < count f y d → 4 * n < (W + count f y d) * (W + count f y d)))
    → IsNearest f n v
of_count f n W nan v k s = absurd v
of_count f n W (inf t) v k s = absurd v
of_count f n W (fin true m e) v k s = absurd (true≢false v.0)
of_count f n W (fin false m e) v k s =
    let c : W ≡ count f m e = sym (ap (λ (x : ℕ). x / down e) v.1 ∙ mul-div_cancel W (down_pos e)) in
    (k, subst (λ (w : ℕ). (y : ℕ) (d : ℤ) → T (fits f (fin false y d)) → (count f y d < w → (w + count f y d) * (w + count f y d) < 4 * n) × (w < count f y d → 4 * n < (w + count f y d) * (w + count f y d))) c s)

-- r * 2 ^ k units, for the r nearest to √R, is nearest to √(R * 4 ^ k) units
pub units_nearest : (f : Format) (R r k : ℕ) → 2 ^ (prec f - 1) * 2 ^ (prec f - 1) ≤ R → 2 ^ (prec f - 1) ≤ r → r < 2 ^ prec f → r * r < R + r → R ≤ r * r + r → r * 2 ^ k < 2 ^ (low f + suc (emax f)) → IsNearest f (R * (2 ^ k * 2 ^ k)) (units f false r k)
units_nearest f R r k lo H hi near far fine =
    of_count f (R * (2 ^ k * 2 ^ k)) (r * 2 ^ k) (units f false r k) (units_val f false r k fine)
    (subst (λ (v : Float). T (fits f v)) (sym (units_is f r k fine)) (odd-fits f (suc (prec f)) false r k (lt_of_lt_of_le hi (pow_mono (more (prec f)))) (le_of_lt hi) fine))
    (λ y d g.
    let c = counted f y d g in
    subst (λ (Y : ℕ). (Y < r * 2 ^ k → (r * 2 ^ k + Y) * (r * 2 ^ k + Y) < 4 * (R * (2 ^ k * 2 ^ k))) × (r * 2 ^ k < Y → 4 * (R * (2 ^ k * 2 ^ k)) < (r * 2 ^ k + Y) * (r * 2 ^ k + Y)))
    (sym c.3)
    (sides (2 ^ (prec f - 1)) R r (2 ^ k) (pow_pos k) lo H near far (c.0 * 2 ^ c.1) (grid (prec f) c.0 c.1 k (two-le_pos (prec f) (two f)) c.2)))
  where
    more : (p : ℕ) → p ≤ suc p
    more p = omega arith
