-- A whole root, one bit at a time from the top: what is kept, that it holds at the leading bit and after each bit more, and what it says after the last.
-- Nothing here is about floats. Assumes nothing.
use mathlib.Core.Path.{◌≡◌, refl, sym, ap, ◌∙◌, subst}
use Prim.Native.Nat.{ℕ, zero, suc, ◌+◌, ◌-◌, ◌*◌, ◌/◌, ◌^◌, ◌≤◌, ◌<◌}
use native.Mathlib.Nat.{add-mul, mul_assoc, mul-le-mul_right, lt_of_not-le}
use native.Mathlib.Decide.{dec_le}
use native.Mathlib.Omega.{arith}
use mathlib.Core.Bool.{Bool, true, false, cond}
use lib.Pow.{pow_pos}
use borrow.Author.Tests.{leb-true, leb-false}
use Rattle.real.specs.declared.root.Found.{Found}
use Rattle.real.specs.Bits.{trial_of, fits_next, with_bit, without_bit, next_of}

-- The root so far, what its square leaves of n, and the digits still to come: too little is left for the last bit found to be one more, and with the bits to come
-- the root stays below most.
pub record Kept (most n digits : ℕ) (f : Found) : Type 0 where
  pub root : ℕ
  pub doubled : f.twice ≡ 2 * root
  pub weight : f.bit ≡ 2 ^ digits / 2
  pub left : root * root + f.rest * 2 ^ digits ≡ n
  pub few : f.rest < 2 * root + 2 ^ digits
  pub room : root + 2 ^ digits ≤ most

-- the leading bit is found: n is a times its weight
abbrev pub leading : ℕ → ℕ → Found
leading top a = record { twice = 2 * top; rest = a - top; bit = top / 2 }

pub start : (digits a : ℕ) → 2 ^ digits ≤ a → a < 4 * 2 ^ digits → Kept (2 * 2 ^ digits) (a * 2 ^ digits) digits (leading (2 ^ digits) a)
start digits a low high =
    let top = 2 ^ digits in
    let parts : a ≡ top + (a - top) = omega arith in
    record {
      root = top;
      doubled = refl;
      weight = refl;
      left = sym (ap (λ (x : ℕ). x * top) parts ∙ add-mul top (a - top) top);
      few = omega arith;
      room = omega arith;
    }

-- nothing overflows
pub within : (most n digits : ℕ) (f : Found) → Kept most n digits f → most ≤ 2 ^ 60 → (f.rest < 2 ^ 62) × (f.twice + 2 * f.bit < 2 ^ 63)
within most n digits f k small =
    let doubled = k.doubled in
    let weight = k.weight in
    let few = k.few in
    let room = k.room in
    (omega arith, omega arith)

-- the weight falls
pub next_less : (f next : Found) → next ≡ next_of f → 0 < f.bit → next.bit < f.bit
unfolding next_of
next_less f next e some = let half : next.bit ≡ f.bit / 2 = ap (λ (g : Found). g.bit) e ∙ by (fits_next f) in omega arith
  where
    by : (t : Bool) → (cond {A = Found} t (with_bit f) (without_bit f)).bit ≡ f.bit / 2
    by true = refl
    by false = refl

-- a bit of weight b joins the root, or it does not
joins : (q b rest n : ℕ) → q * q + rest * (2 * b) ≡ n → 2 * q + b ≤ 2 * rest → (q + b) * (q + b) + (2 * rest - (2 * q + b)) * b ≡ n
joins q b rest n e h =
    let d = 2 * rest - (2 * q + b) in
    let parts : 2 * rest ≡ 2 * q + b + d = omega arith in
    omega (arith, ap (λ (x : ℕ). x * b) parts)

passes : (q b rest n : ℕ) → q * q + rest * (2 * b) ≡ n → q * q + 2 * rest * b ≡ n
passes q b rest n e = omega arith

module _ (most n digits : ℕ) (f : Found) (k : Kept most n (suc digits) f) where
  abbrev root : ℕ
  root = k.root

  doubled : f.twice ≡ 2 * root
  doubled = k.doubled

  -- the next bit's weight, and what is known in it
  bit_is : f.bit ≡ 2 ^ digits
  bit_is = let w = k.weight in omega arith

  last_is : 2 ^ suc digits ≡ 2 * f.bit
  last_is = let w = bit_is in omega arith

  left_by : root * root + f.rest * (2 * f.bit) ≡ n
  left_by = subst (λ (x : ℕ). root * root + f.rest * x ≡ n) last_is k.left

  few_by : f.rest < 2 * root + 2 * f.bit
  few_by = subst (λ (x : ℕ). f.rest < 2 * root + x) last_is k.few

  room_by : root + 2 * f.bit ≤ most
  room_by = subst (λ (x : ℕ). root + x ≤ most) last_is k.room

  pub some_bit : 0 < f.bit
  some_bit = let w = bit_is in let p : 0 < 2 ^ digits = pow_pos digits in omega arith

  -- one bit more
  pub again : Kept most n digits (next_of f)
  unfolding next_of
  again = by (fits_next f) refl
    where
      by : (t : Bool) → fits_next f ≡ t → Kept most n digits (cond t (with_bit f) (without_bit f))
      by true e =
          let fits : 2 * root + f.bit ≤ 2 * f.rest = subst (λ (x : ℕ). x + f.bit ≤ 2 * f.rest) doubled (leb-true _ _ e) in
          let left : (root + f.bit) * (root + f.bit) + (2 * f.rest - trial_of f) * f.bit ≡ n =
          ap (λ (x : ℕ). (root + f.bit) * (root + f.bit) + (2 * f.rest - (x + f.bit)) * f.bit) doubled ∙ joins root f.bit f.rest n left_by fits in
          record {
            root = root + f.bit;
            doubled = omega (arith, doubled);
            weight = ap (λ (x : ℕ). x / 2) bit_is;
            left = subst (λ (x : ℕ). (root + f.bit) * (root + f.bit) + (2 * f.rest - trial_of f) * x ≡ n) bit_is left;
            few = subst (λ (x : ℕ). 2 * f.rest - trial_of f < 2 * (root + f.bit) + x) bit_is (omega (arith, few_by, doubled));
            room = subst (λ (x : ℕ). root + f.bit + x ≤ most) bit_is (omega (arith, room_by));
          }
      by false e =
          let short : 2 * f.rest < trial_of f = leb-false _ _ e in
          record {
            root = root;
            doubled = doubled;
            weight = ap (λ (x : ℕ). x / 2) bit_is;
            left = subst (λ (x : ℕ). root * root + 2 * f.rest * x ≡ n) bit_is (passes root f.bit f.rest n left_by);
            few = subst (λ (x : ℕ). 2 * f.rest < 2 * root + x) bit_is (omega (arith, doubled));
            room = subst (λ (x : ℕ). root + x ≤ most) bit_is (omega (arith, room_by));
          }

  -- the trial fits exactly where the square with the bit is at most n
  pub asks_the_square : (trial_of f ≤ 2 * f.rest → (k.root + f.bit) * (k.root + f.bit) ≤ n) × ((k.root + f.bit) * (k.root + f.bit) ≤ n → trial_of f ≤ 2 * f.rest)
  asks_the_square = (
    (λ fits. omega (arith, joins root f.bit f.rest n left_by (subst (λ (x : ℕ). x + f.bit ≤ 2 * f.rest) doubled fits))),
    (λ square. by square (dec_le (trial_of f) (2 * f.rest))),
  )
    where
      too_much : (root + f.bit) * (root + f.bit) ≤ n → 2 * f.rest < 2 * root + f.bit → ⊥
      too_much square more =
          let one_more_lem : (2 * f.rest + 1) * f.bit ≤ (2 * root + f.bit) * f.bit = mul-le-mul_right f.bit (omega arith) in
          omega (arith, passes root f.bit f.rest n left_by, some_bit, add-mul (2 * f.rest) 1 f.bit, add-mul (2 * root) f.bit f.bit, mul_assoc 2 root f.bit)

      by : (root + f.bit) * (root + f.bit) ≤ n → Dec (trial_of f ≤ 2 * f.rest) → trial_of f ≤ 2 * f.rest
      by square (yes fits) = fits
      by square (no g) = absurd (too_much square (subst (λ (x : ℕ). 2 * f.rest < x + f.bit) doubled (lt_of_not-le g)))

-- the digits to come by the next bit's weight: none where it is 0
pub some_come : (most n digits : ℕ) (f : Found) → Kept most n digits f → 0 < f.bit → (rest : ℕ) × (digits ≡ suc rest)
some_come most n zero f k h = absurd (let w : f.bit ≡ 2 ^ 0 / 2 = k.weight in omega arith)
some_come most n (suc digits) f k h = (digits, refl)

pub none_come : (most n digits : ℕ) (f : Found) → Kept most n digits f → f.bit ≤ 0 → digits ≡ 0
none_come most n zero f k h = refl
none_come most n (suc digits) f k h = absurd (let p = some_bit most n digits f k in omega arith)

-- after the last digit: the whole root and what its square leaves
pub ended : (most n : ℕ) (f : Found) → Kept most n 0 f → (f.twice / 2 * (f.twice / 2) + f.rest ≡ n) × (f.rest ≤ 2 * (f.twice / 2)) × (f.twice / 2 < most)
ended most n f k =
    let root = k.root in
    let doubled = k.doubled in
    let is : root ≡ f.twice / 2 = omega arith in
    let left : root * root + f.rest ≡ n = let l = k.left in omega arith in
    let few : f.rest ≤ 2 * root = let l = k.few in omega arith in
    let room : root < most = let r = k.room in omega arith in
    subst (λ (q : ℕ). (q * q + f.rest ≡ n) × (f.rest ≤ 2 * q) × (q < most)) is (left, few, room)
