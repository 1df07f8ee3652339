-- Digits read one after the other. Assumes nothing.
use Prim.Native.Nat.{ℕ, zero, suc, ◌+◌, ◌-◌, ◌*◌, ◌^◌, ◌<◌, ◌≤◌}
use mathlib.Core.Path.{◌≡◌, refl, sym, ap, ◌∙◌}
use mathlib.Core.Bool.{Bool, true, false, cond, ◌&&◌}
use mathlib.Core.List.{List}
use native.Mathlib.Nat.{pow-suc, pow-le-pow_right, mul-le-mul_left, mul-le-mul_right}
use native.Mathlib.Omega.{arith}
use lib.Dec.{leb, ltb, lit<}
use lib.ListN.{length, get_or-eq_default}
use borrow.Author.Tests.{le-leb, lt-leb, lt-ltb, le-ltb, leb-true, ltb-true, ltb-false}
use Rattle.std.specs.Prelude.{Option, Some, None}
use Rattle.std.specs.Option.{unwrap_or}
use Rattle.texts.specs.declared.Scan.{Scan}
use Rattle.texts.specs.Bytes.{digit_zero, digit_nine, letter_a, letter_f}
use Rattle.texts.specs.Digits.{byte_at, is_digit, digit_value, digit_of, digit_run, number_at, scan_of}

-- ---- a digit of the base, or none
pub digit_is : (base b v : ℕ) → v ≡ digit_value b → v < base → Some v ≡ digit_of base b
digit_is base b v e h =
    ap (λ (t : Bool). cond t (Some v) None) (sym (lt-ltb v base h))
    ∙ ap (λ (x : ℕ). cond (ltb x base) (Some x) None) e

pub digit_none : (base b v : ℕ) → v ≡ digit_value b → base ≤ v → None ≡ digit_of base b
digit_none base b v e h =
    ap (λ (t : Bool). cond t (Some v) None) (sym (le-ltb v base h))
    ∙ ap (λ (x : ℕ). cond (ltb x base) (Some x) None) e

digit_by : (base b d : ℕ) (t : Bool) → is_digit base b ≡ t → Some d ≡ cond t (Some (digit_value b)) None → (d ≡ digit_value b) × (d < base)
digit_by base b d true e h = let g : d ≡ digit_value b = cc in let l : digit_value b < base = ltb-true (digit_value b) base e in (g, omega arith)
digit_by base b d false e h = absurd (cc)

pub digit_was : (base b d : ℕ) → Some d ≡ digit_of base b → (d ≡ digit_value b) × (d < base)
digit_was base b d h = digit_by base b d (is_digit base b) refl h

none_by : (base b : ℕ) (t : Bool) → is_digit base b ≡ t → None ≡ cond t (Some (digit_value b)) None → base ≤ digit_value b
none_by base b true e h = absurd (cc)
none_by base b false e h = ltb-false (digit_value b) base e

pub digit_was_none : (base b : ℕ) → None ≡ digit_of base b → base ≤ digit_value b
digit_was_none base b h = none_by base b (is_digit base b) refl h

-- a digit of base 16 with the base in place of none: below the base it is the digit, else there is none of the base
pub digit_told : (base b d : ℕ) (o : Option ℕ) → o ≡ digit_of 16 b → d ≡ unwrap_or o base → d < base → Some d ≡ digit_of base b
digit_told base b d (Some v) e f h = digit_is base b d (f ∙ (digit_was 16 b v e).0) h
digit_told base b d None e f h = absurd (omega arith)

pub digit_untold : (base b d : ℕ) (o : Option ℕ) → o ≡ digit_of 16 b → d ≡ unwrap_or o base → base ≤ 16 → base ≤ d → None ≡ digit_of base b
digit_untold base b d (Some v) e f g h = digit_none base b d (f ∙ (digit_was 16 b v e).0) h
digit_untold base b d None e f g h = let least = digit_was_none 16 b e in digit_none base b (digit_value b) refl (omega arith)

-- a number of k digits with one digit more
grown : (v base d k : ℕ) → v < 16 ^ k → base ≤ 16 → d < base → k < 16 → (v * base + d < 2 ^ 64) × (v * base + d < 16 ^ (k + 1))
grown v base d k hv hb hd hk =
    let m : v * base ≤ v * 16 = mul-le-mul_left v hb in
    let w : suc v * 16 ≤ 16 ^ k * 16 = mul-le-mul_right 16 hv in
    let e : 16 ^ (k + 1) ≡ 16 ^ k * 16 = ap (λ (x : ℕ). 16 ^ x) (let s : k + 1 ≡ suc k = omega arith in s) ∙ pow-suc 16 k in
    let t : 16 ^ (k + 1) ≤ 16 ^ 16 = pow-le-pow_right (lit< tt) (let s : k + 1 ≤ 16 = omega arith in s) in
    (omega arith, omega arith)

-- what the reader of digits keeps: k digits are read, which spell v; the rest is still to be read
pub record Scanned (base : ℕ) (text : List ℕ) (most p v k : ℕ) : Type 0 where
  pub within : k ≤ most
  pub small : v < 16 ^ k
  pub spelled : v ≡ number_at base text p k
  pub passed : digit_run base most text p ≡ k + digit_run base (most - k) text (p + k)

module _ (base : ℕ) (text : List ℕ) (most p : ℕ) where
  pub scanned_none : Scanned base text most p 0 0
  unfolding number_at
  scanned_none = record {
    within = omega arith;
    small = lit< tt;
    spelled = refl;
    passed = ap (λ (d : ℕ). digit_run base d text p) (let e : most ≡ most - 0 = omega arith in e) ∙ ap (digit_run base (most - 0) text) (let e : p ≡ p + 0 = omega arith in e) ∙ (let e : digit_run base (most - 0) text (p + 0) ≡ 0 + digit_run base (most - 0) text (p + 0) = omega arith in e);
  }

  ended : (v k : ℕ) → v ≡ number_at base text p k → k ≡ digit_run base most text p → ◌≡◌ {A = Scan} (record { value = v; digits = k }) (scan_of base most text p)
  ended v k e g = ap {B = Scan} (λ (x : ℕ). record { value = x; digits = k }) e ∙ ap {B = Scan} (λ (x : ℕ). record { value = number_at base text p x; digits = x }) g

  -- a turn: the byte b stands at p + k
  module _ (v k b : ℕ) (scanned : Scanned base text most p v k) (inside : k < most) (at : b ≡ byte_at text (p + k)) where
    -- what is left, by its first byte
    left : (t : Bool) → is_digit base b ≡ t → digit_run base (most - k) text (p + k) ≡ cond t (suc (digit_run base (most - (k + 1)) text (p + k + 1))) 0
    unfolding digit_run
    left t e =
        ap (λ (n : ℕ). digit_run base n text (p + k)) (let s : most - k ≡ suc (most - (k + 1)) = omega arith in s)
        ∙ ap (λ (x : Bool). cond x (suc (digit_run base (most - (k + 1)) text (p + k + 1))) 0) (ap (is_digit base) (sym at) ∙ e)

    -- a digit d more fits, and is one digit more of the number
    module _ (d : ℕ) (digit : Some d ≡ digit_of base b) (hb : base ≤ 16) (hm : most ≤ 16) where
      one_more : (v * base + d < 2 ^ 64) × (v * base + d < 16 ^ (k + 1))
      one_more = grown v base d k scanned.small hb (digit_was base b d digit).1 (omega arith)

      pub digit_fits : v * base + d < 2 ^ 64
      digit_fits = one_more.0

      pub product_fits : v * base < 2 ^ 64
      product_fits = let h = one_more.0 in omega arith

      pub scanned_more : Scanned base text most p (v * base + d) (k + 1)
      unfolding number_at
      scanned_more =
          let was = digit_was base b d digit in
          let l : digit_run base (most - k) text (p + k) ≡ suc (digit_run base (most - (k + 1)) text (p + k + 1)) = left true (lt-ltb (digit_value b) base (omega arith)) in
          let q : digit_run base (most - (k + 1)) text (p + k + 1) ≡ digit_run base (most - (k + 1)) text (p + (k + 1)) = ap (digit_run base (most - (k + 1)) text) (let z : p + k + 1 ≡ p + (k + 1) = omega arith in z) in
          let i = scanned.passed in
          record {
            within = omega arith;
            small = one_more.1;
            spelled =
                ap (λ (x : ℕ). x * base + d) scanned.spelled
                ∙ ap (λ (x : ℕ). number_at base text p k * base + x) (was.0 ∙ ap digit_value at)
                ∙ ap (number_at base text p) (let z : suc k ≡ k + 1 = omega arith in z);
            passed = omega arith;
          }

    -- a byte that is no digit ends them
    pub scanned_stops : None ≡ digit_of base b → ◌≡◌ {A = Scan} (record { value = v; digits = k }) (scan_of base most text p)
    scanned_stops h =
        let l : digit_run base (most - k) text (p + k) ≡ 0 = left false (le-ltb (digit_value b) base (digit_was_none base b h)) in
        let i = scanned.passed in
        ended v k scanned.spelled (omega arith)

  -- as many as were asked for
  pub scanned_full : (v k : ℕ) → most ≤ k → Scanned base text most p v k → ◌≡◌ {A = Scan} (record { value = v; digits = k }) (scan_of base most text p)
  unfolding digit_run
  scanned_full v k h scanned =
      let w = scanned.within in
      let l : digit_run base (most - k) text (p + k) ≡ 0 = ap (λ (n : ℕ). digit_run base n text (p + k)) (let z : most - k ≡ 0 = omega arith in z) in
      let i = scanned.passed in
      ended v k scanned.spelled (omega arith)

-- past the end
pub past_end : (text : List ℕ) (p : ℕ) → length text ≤ p → 0 ≡ byte_at text p
past_end text p h = sym (get_or-eq_default text 0 h)

-- a digit more or none
more_or_none : (d r : ℕ) (b : Bool) → r ≤ d → cond b (suc r) 0 ≤ suc d
more_or_none d r true h = omega arith
more_or_none d r false h = omega arith

pub digit_run_most : (base : ℕ) (text : List ℕ) (d p : ℕ) → digit_run base d text p ≤ d
unfolding digit_run
digit_run_most base text zero p = omega arith
digit_run_most base text (suc d) p = more_or_none d (digit_run base d text (p + 1)) (is_digit base (byte_at text p)) (digit_run_most base text d (p + 1))

-- ---- the value of a byte, by where it lies
pub value_under_digits : (b : ℕ) → b < digit_zero → 16 ≡ digit_value b
unfolding digit_value
value_under_digits b h = let g : b < letter_a = omega arith in rw (lt-leb digit_zero b h, lt-leb letter_a b g)

pub value_digit : (b : ℕ) → digit_zero ≤ b → b ≤ digit_nine → b - digit_zero ≡ digit_value b
unfolding digit_value
value_digit b g h = rw (le-leb digit_zero b g, le-leb b digit_nine h)

pub value_between : (b : ℕ) → digit_nine < b → b < letter_a → 16 ≡ digit_value b
unfolding digit_value
value_between b g h = let f : digit_zero ≤ b = omega arith in rw (le-leb digit_zero b f, lt-leb b digit_nine g, lt-leb letter_a b h)

pub value_letter : (b : ℕ) → letter_a ≤ b → b ≤ letter_f → b - letter_a + 10 ≡ digit_value b
unfolding digit_value
value_letter b g h = let f : digit_zero ≤ b = omega arith in let e : digit_nine < b = omega arith in rw (le-leb digit_zero b f, lt-leb b digit_nine e, le-leb letter_a b g, le-leb b letter_f h)

pub value_over_letters : (b : ℕ) → letter_f < b → 16 ≡ digit_value b
unfolding digit_value
value_over_letters b h = let f : digit_zero ≤ b = omega arith in let e : digit_nine < b = omega arith in let g : letter_a ≤ b = omega arith in rw (le-leb digit_zero b f, lt-leb b digit_nine e, le-leb letter_a b g, lt-leb b letter_f h)

-- a decimal digit lies among 0 to 9
pub decimal_digit : (b : ℕ) → is_digit 10 b ≡ true → (digit_zero ≤ b) × (b - digit_zero ≡ digit_value b)
decimal_digit b e = under (ltb b digit_zero) refl
  where
    small : digit_value b < 10
    small = ltb-true (digit_value b) 10 e

    far : (v : ℕ) → v ≡ digit_value b → 10 ≤ v → ⊥
    far v q h = let s = small in omega arith

    letter : (t : Bool) → ltb letter_f b ≡ t → letter_a ≤ b → ⊥
    letter true q g = far 16 (value_over_letters b (ltb-true letter_f b q)) (omega arith)
    letter false q g = far (b - letter_a + 10) (value_letter b g (ltb-false letter_f b q)) (omega arith)

    over : (t : Bool) → ltb b letter_a ≡ t → digit_nine < b → ⊥
    over true q g = far 16 (value_between b g (ltb-true b letter_a q)) (omega arith)
    over false q g = letter (ltb letter_f b) refl (ltb-false b letter_a q)

    among : (t : Bool) → ltb digit_nine b ≡ t → digit_zero ≤ b → (digit_zero ≤ b) × (b - digit_zero ≡ digit_value b)
    among true q g = absurd (over (ltb b letter_a) refl (ltb-true digit_nine b q))
    among false q g = (g, value_digit b g (ltb-false digit_nine b q))

    under : (t : Bool) → ltb b digit_zero ≡ t → (digit_zero ≤ b) × (b - digit_zero ≡ digit_value b)
    under true q = absurd (far 16 (value_under_digits b (ltb-true b digit_zero q)) (omega arith))
    under false q = among (ltb digit_nine b) refl (ltb-false b digit_zero q)

-- ---- a decimal digit, by the one test of the range
in_both : (s t : Bool) → true ≡ (s && t) → t ≡ true
in_both true t e = sym e
in_both false t e = absurd (cc)

pub decimal_is : (b : ℕ) → true ≡ (leb digit_zero b && leb b digit_nine) → Some (b - digit_zero) ≡ digit_of 10 b
unfolding digit_value
decimal_is b e =
    let h : b ≤ digit_nine = leb-true b digit_nine (in_both (leb digit_zero b) (leb b digit_nine) e) in
    digit_is 10 b (b - digit_zero) (rw (sym e)) (omega arith)

at_least_ten : (b x : ℕ) (t u : Bool) → false ≡ t → 10 ≤ cond t x (cond u (b - letter_a + 10) 16)
at_least_ten b x true u e = absurd (cc)
at_least_ten b x false true e = omega arith
at_least_ten b x false false e = omega arith

pub decimal_none : (b : ℕ) → false ≡ (leb digit_zero b && leb b digit_nine) → None ≡ digit_of 10 b
unfolding digit_value
decimal_none b e = digit_none 10 b (digit_value b) refl (at_least_ten b (b - digit_zero) (leb digit_zero b && leb b digit_nine) (leb letter_a b && leb b letter_f) e)
