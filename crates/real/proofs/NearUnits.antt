-- The root of n units, by its parts: where n is R * 4 ^ k, and r is the whole number nearest to √R, of as many digits as the format keeps, it is r * 2 ^ k units. Assumes nothing.
use mathlib.Core.Path.{◌≡◌, refl, sym, ap, ◌∙◌, subst}
use Prim.Native.Nat.{ℕ, zero, suc, ◌+◌, ◌-◌, ◌*◌, ◌/◌, ◌^◌, ◌≤◌, ◌<◌, compare, Ordering}
use native.Mathlib.Nat.{mul_assoc, mul-mul-mul_comm, mul-le-mul_right, mul-pos, mul-lt-mul_of_pos_right, lt_of_not-le, not-le_of_lt, lt_of_lt_of_le, lt_of_le_of_lt, le_trans, le_of_eq, le_of_lt, le_antisymm, le_of_suc-le-suc, lt_irrefl, le-div_iff_mul-le, div-lt_iff_lt-mul}
use native.Mathlib.Omega.{arith}
use native.Mathlib.Decide.{dec_le}
use mathlib.Core.Bool.{false, not}
use lib.Dec.{T, is_le, compare_is_eq, leb→le, nleb→lt, eqb→eq}
use lib.Pow.{pow-add, pow_mono, pow_pos}
use lib.Ieee.{Format, prec, size, nearest, units}
use lib.Ieee.Digits.{size-lt, size-le}
use lib.Ieee.Fits.{two, two-le_pos}
use Rattle.real.specs.Root.{whole_root, root}
use Rattle.real.proofs.Squares.{square_lt, square_suc, square_middle, IsRoot, whole_root-is}

-- ---- which way `nearest` goes
nearest_lt : (q a b : ℕ) → a < b → nearest q (compare a b) ≡ q
nearest_lt q a b h = go (compare a b) (nleb→lt a b) (eqb→eq a b)
  where
    go : (o : Ordering) → (T (not (is_le o)) → b < a) → (T (compare_is_eq o) → a ≡ b) → nearest q o ≡ q
    go Ordering.lt g e = refl
    go Ordering.eq g e = absurd (lt_irrefl b (subst (λ (x : ℕ). x < b) (e tt) h))
    go Ordering.gt g e = absurd (not-le_of_lt (g tt) (le_of_lt h))

nearest_gt : (q a b : ℕ) → b < a → nearest q (compare a b) ≡ suc q
nearest_gt q a b h = go (compare a b) (leb→le a b)
  where
    go : (o : Ordering) → (T (is_le o) → a ≤ b) → nearest q o ≡ suc q
    go Ordering.lt l = absurd (not-le_of_lt h (l tt))
    go Ordering.eq l = absurd (not-le_of_lt h (l tt))
    go Ordering.gt l = refl

-- ---- the digits that are kept
pub pow_lt_back : (i p : ℕ) → 2 ^ i < 2 ^ p → i < p
pow_lt_back i p h = lt_of_not-le (λ (g : p ≤ i). lt_irrefl (2 ^ i) (lt_of_lt_of_le h (pow_mono g)))

dropped : (z p k : ℕ) → 0 < p → z ≤ p + k → p - 1 + k < z → z - p ≡ k
dropped z p k P a b = omega arith

pub kept_size : (p k w : ℕ) → 0 < p → 2 ^ (p - 1) * 2 ^ k ≤ w → w < 2 ^ p * 2 ^ k → size w - p ≡ k
kept_size p k w P lo hi =
    dropped (size w) p k P (size-le w (p + k) (subst (λ (x : ℕ). w < x) (sym (pow-add 2 p k)) hi))
    (pow_lt_back (p - 1 + k) (size w) (lt_of_le_of_lt (le_trans (le_of_eq (pow-add 2 (p - 1) k)) lo) (size-lt w)))

scaled : (a u : ℕ) → a * u * (a * u) ≡ a * a * (u * u)
scaled a u = mul-mul-mul_comm a u a u

-- the root of R * (u * u) begins with the root of R
kept_quotient : (R u q w : ℕ) → 0 < u → IsRoot R q → IsRoot (R * (u * u)) w → (q * u ≤ w) × (w < (q + 1) * u)
kept_quotient R u q w U h k = (
  le_of_suc-le-suc (subst (λ (x : ℕ). q * u < x) (one w) (square_lt (q * u) (w + 1) (lt_of_le_of_lt (le_trans (le_of_eq (scaled q u)) (mul-le-mul_right (u * u) h.0)) k.1))),
  square_lt w ((q + 1) * u) (lt_of_le_of_lt k.0 (lt_of_lt_of_le (mul-lt-mul_of_pos_right h.1 (mul-pos U U)) (le_of_eq (sym (scaled (q + 1) u))))),
)
  where
    one : (n : ℕ) → n + 1 ≡ suc n
    one n = omega arith

quotient : (q u w : ℕ) → 0 < u → q * u ≤ w → w < (q + 1) * u → w / u ≡ q
quotient q u w U lo hi = le_antisymm (le_of_suc-le-suc (subst (λ (x : ℕ). w / u < x) (one q) ((div-lt_iff_lt-mul U).1 hi))) ((le-div_iff_mul-le U).1 lo)
  where
    one : (n : ℕ) → n + 1 ≡ suc n
    one n = omega arith

-- 2 ^ (p - 1) ≤ q < 2 ^ p, for the whole root q of an R from 4 ^ (p - 1) up and below 4 ^ p
digits_of : (R q h t : ℕ) → IsRoot R q → h * h ≤ R → R < t * t → (h ≤ q) × (q < t)
digits_of R q h t i lo hi = (
  le_of_suc-le-suc (subst (λ (x : ℕ). h < x) (one q) (square_lt h (q + 1) (lt_of_le_of_lt lo i.1))),
  square_lt q t (lt_of_le_of_lt i.0 hi),
)
  where
    one : (n : ℕ) → n + 1 ≡ suc n
    one n = omega arith

module _ (f : Format) (R k : ℕ) (lo : 2 ^ (prec f - 1) * 2 ^ (prec f - 1) ≤ R) (hi : R < 2 ^ prec f * 2 ^ prec f) where
  -- what `root` finds by itself: that it drops k digits, and keeps q
  parts : (q : ℕ) → IsRoot R q → let w = whole_root (R * (2 ^ k * 2 ^ k)) in (size w - prec f ≡ k) × (w / 2 ^ k ≡ q)
  parts q i =
      let u = 2 ^ k in
      let w = whole_root (R * (u * u)) in
      let d = digits_of R q (2 ^ (prec f - 1)) (2 ^ prec f) i lo hi in
      let b = kept_quotient R u q w (pow_pos k) i (whole_root-is (R * (u * u))) in (
        kept_size (prec f) k w (two-le_pos (prec f) (two f)) (le_trans (mul-le-mul_right u d.0) b.0) (lt_of_lt_of_le b.1 (mul-le-mul_right u (subst (λ (x : ℕ). x ≤ 2 ^ prec f) (one q) d.1))),
        quotient q u w (pow_pos k) b.0 b.1,
      )
    where
      one : (n : ℕ) → suc n ≡ n + 1
      one n = omega arith

  four_out : 4 * (R * (2 ^ k * 2 ^ k)) ≡ 4 * R * (2 ^ k * 2 ^ k)
  four_out = sym (mul_assoc 4 R (2 ^ k * 2 ^ k))

  stays : (q : ℕ) → IsRoot R q → R ≤ q * q + q → root f (R * (2 ^ k * 2 ^ k)) ≡ units f false q k
  unfolding root
  stays q i h =
      let p = parts q i in
      rw (p.0, p.1)
      (ap (λ (x : ℕ). units f false x k)
      (nearest_lt q _ _
      (lt_of_le_of_lt (le_of_eq four_out) (lt_of_lt_of_le (mul-lt-mul_of_pos_right (omega (arith, square_middle q)) (mul-pos (pow_pos k) (pow_pos k))) (le_of_eq (sym (scaled _ (2 ^ k))))))))

  moves : (q : ℕ) → IsRoot R q → q * q + q < R → root f (R * (2 ^ k * 2 ^ k)) ≡ units f false (suc q) k
  unfolding root
  moves q i h =
      let p = parts q i in
      rw (p.0, p.1)
      (ap (λ (x : ℕ). units f false x k)
      (nearest_gt q _ _
      (lt_of_le_of_lt (le_of_eq (scaled _ (2 ^ k))) (lt_of_lt_of_le (mul-lt-mul_of_pos_right (omega (arith, square_middle q)) (mul-pos (pow_pos k) (pow_pos k))) (le_of_eq (sym four_out))))))

  -- r is the whole number nearest to √R: r - 1/2 < √R < r + 1/2
  pub root_near : (r : ℕ) → r * r < R + r → R ≤ r * r + r → root f (R * (2 ^ k * 2 ^ k)) ≡ units f false r k
  root_near r a b = go (dec_le (r * r) R)
    where
      low : (q : ℕ) → R < suc q * suc q → suc q * suc q < R + suc q → units f false (suc q) k ≡ units f false (suc q) k → root f (R * (2 ^ k * 2 ^ k)) ≡ units f false (suc q) k
      low q s t e =
          let up : suc q * suc q ≡ q * q + 2 * q + 1 = ap (λ (x : ℕ). x * x) (one q) ∙ square_suc q in
          moves q (omega arith, subst (λ (x : ℕ). R < x * x) (one q) s) (omega arith)
        where
          one : (n : ℕ) → suc n ≡ n + 1
          one n = omega arith

      down : (r : ℕ) → R < r * r → r * r < R + r → root f (R * (2 ^ k * 2 ^ k)) ≡ units f false r k
      down zero s t = absurd (none s)
        where
          none : R < 0 → ⊥
          none g = omega arith
      down (suc q) s t = low q s t refl

      go : Dec (r * r ≤ R) → root f (R * (2 ^ k * 2 ^ k)) ≡ units f false r k
      go (yes h) = stays r (h, omega (arith, square_suc r)) b
      go (no g) = down r (lt_of_not-le g) a
