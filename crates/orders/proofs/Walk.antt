-- A walk over an order with numbers marked in a word: what is left decides whether it is a permutation, and its parity. Assumes nothing.
use Prim.Native.Nat.{ℕ, zero, suc, ◌+◌, ◌-◌, ◌*◌, ◌/◌, ◌%◌, ◌^◌, ◌≤◌, ◌<◌}
use mathlib.Core.Path.{◌≡◌, refl, ap, sym, ◌∙◌}
use mathlib.Core.Bool.{Bool, true, false, cond, ◌&&◌, not-not}
use mathlib.Core.List.{List, [], ◌∷◌}
use native.Mathlib.Nat.{zero-div, div-eq_of_lt, mod-lt, pow-suc}
use native.Mathlib.Decide.{dec_lt, ℕ_discrete}
use native.Mathlib.Omega.{arith}
use lib.Bits.{bit_xor, xor_shr, xor_mod}
use lib.Pow.{pow_pos, pow_mono, pow-lt, pow-add, shl-shr, shr-shr, ones_split, ones_lt, high, low, field, mod-mod-pow}
use lib.Dec.{ltb, eqb}
use lib.ListN.{length, get_or, drop}
use borrow.Author.Tests.{lt-ltb, le-ltb, eq-eqb, ne_eqb}
use Rattle.refusals.specs.Largest as largest
use Rattle.orders.specs.Order.{is_order, differ, odd_below, parity}
use Rattle.orders.specs.Walk.{marked, mark_of, marks_none, marks_with, is_full}
use Rattle.orders.specs.declared.Marks.{Marks}
use Rattle.orders.proofs.Rest.{rest_turn, rest_end, differ_turn, differ_swap, differ_false}
use Rattle.orders.proofs.Times.{oddly, all_below, order_all_below, order_oddly, oddly_order}

-- ---- the marks of a word that is made from others

marked_zero : (y : ℕ) → marked 0 y ≡ false
marked_zero y = ap (λ (k : ℕ). eqb (k % 2) 1) (zero-div (2 ^ y))

-- a digit of each
digits_xor : (p q : ℕ) → p < 2 → q < 2 → eqb (bit_xor p q) 1 ≡ differ (eqb p 1) (eqb q 1)
digits_xor zero q h k = refl
digits_xor (suc zero) zero h k = refl
digits_xor (suc zero) (suc zero) h k = refl
digits_xor (suc zero) (suc (suc q)) h k = absurd (omega arith)
digits_xor (suc (suc p)) q h k = absurd (omega arith)

marked_xor : (a b y : ℕ) → marked (bit_xor a b) y ≡ differ (marked a y) (marked b y)
marked_xor a b y =
    ap (λ (k : ℕ). eqb (k % 2) 1) (xor_shr a b y) ∙ ap (λ (k : ℕ). eqb k 1) (xor_mod (a / 2 ^ y) (b / 2 ^ y) 1)
    ∙ digits_xor (a / 2 ^ y % 2) (b / 2 ^ y % 2) (mod-lt (a / 2 ^ y) (omega arith)) (mod-lt (b / 2 ^ y) (omega arith))

-- nothing is marked at or above the end of a word
marked_past : (w y : ℕ) → w < 2 ^ y → marked w y ≡ false
marked_past w y h = ap (λ (k : ℕ). eqb (k % 2) 1) (div-eq_of_lt h)

-- the word 2 ^ x marks x
marked_one : (x y : ℕ) → marked (2 ^ x) y ≡ eqb x y
marked_one x y = go (dec_lt y x) (ℕ_discrete x y)
  where
    go : Dec (y < x) → Dec (x ≡ y) → marked (2 ^ x) y ≡ eqb x y
    go (yes h) d =
        let j = x - suc y in
        let e : x ≡ suc j + y = omega arith in
        let even : 2 ^ suc j % 2 ≡ 0 = let s = pow-suc 2 j in omega arith in
        ap (λ (k : ℕ). eqb (k / 2 ^ y % 2) 1) (ap (λ (k : ℕ). 2 ^ k) e ∙ pow-add 2 (suc j) y)
        ∙ ap (λ (k : ℕ). eqb (k % 2) 1) (shl-shr (2 ^ suc j) y) ∙ ap (λ (k : ℕ). eqb k 1) even ∙ sym (ne_eqb x y (λ z. omega arith))
    go (no h) (yes e) = rw e (ap (λ (k : ℕ). eqb (k / 2 ^ y % 2) 1) (let t : 2 ^ y ≡ 1 * 2 ^ y = omega arith in t) ∙ ap (λ (k : ℕ). eqb (k % 2) 1) (shl-shr 1 y) ∙ sym (eq-eqb y y refl))
    go (no h) (no e) = marked_past (2 ^ x) y (pow-lt (omega arith)) ∙ sym (ne_eqb x y e)

-- the word 2 ^ x - 1 marks those below x
marked_below : (x y : ℕ) → marked (2 ^ x - 1) y ≡ ltb y x
marked_below x y = go (dec_lt y x)
  where
    go : Dec (y < x) → marked (2 ^ x - 1) y ≡ ltb y x
    go (yes h) =
        let j = x - suc y in
        let e : x ≡ suc j + y = omega arith in
        let odd : (2 ^ suc j - 1) % 2 ≡ 1 = let s = pow-suc 2 j in let p = pow_pos j in omega arith in
        ap (λ (k : ℕ). eqb (k / 2 ^ y % 2) 1) (ap (λ (k : ℕ). 2 ^ k - 1) e ∙ ones_split (suc j) y)
        ∙ ap (λ (k : ℕ). eqb (k % 2) 1) (high (2 ^ suc j - 1) y (ones_lt y)) ∙ ap (λ (k : ℕ). eqb k 1) odd ∙ sym (lt-ltb y x h)
    go (no h) = let m : 2 ^ x ≤ 2 ^ y = pow_mono (omega arith) in marked_past (2 ^ x - 1) y (omega (arith, pow_pos x)) ∙ sym (le-ltb y x (omega arith))

-- ---- the parity: w marks those that an odd number of what has come is above

-- whether an odd number of the list is marked
odd_marked : ℕ → List ℕ → Bool
odd_marked w [] = false
odd_marked w (x ∷ l) = differ (marked w x) (odd_marked w l)

odd_marked-zero : (l : List ℕ) → odd_marked 0 l ≡ false
unfolding odd_marked
odd_marked-zero [] = refl
odd_marked-zero (x ∷ l) = rw (marked_zero x) (odd_marked-zero l)

odd_marked-more : (w x : ℕ) (l : List ℕ) → odd_marked (bit_xor w (2 ^ x - 1)) l ≡ differ (odd_below x l) (odd_marked w l)
unfolding odd_marked odd_below
odd_marked-more w x [] = refl
odd_marked-more w x (y ∷ l) = rw (marked_xor w (2 ^ x - 1) y, marked_below x y, odd_marked-more w x l) (go (marked w y) (ltb y x) (odd_below x l) (odd_marked w l))
  where
    go : (m b o c : Bool) → differ (differ m b) (differ o c) ≡ differ (differ b o) (differ m c)
    go false false o c = refl
    go true false false c = refl
    go true false true c = refl
    go false true false c = refl
    go false true true c = not-not c
    go true true false c = sym (not-not c)
    go true true true c = refl

-- the parity of what is left, and of its inversions with what has come
pub parity_left : ℕ → List ℕ → Bool
parity_left w l = differ (odd_marked w l) (parity l)

parity_start : (l : List ℕ) → parity_left 0 l ≡ parity l
unfolding parity_left
parity_start l = ap (λ (t : Bool). differ t (parity l)) (odd_marked-zero l)

parity_end : (w : ℕ) → parity_left w [] ≡ false
unfolding parity_left odd_marked parity
parity_end w = refl

parity_turn : (w x : ℕ) (l : List ℕ) (odd : Bool) → differ (differ (marked w x) odd) (parity_left (bit_xor w (2 ^ x - 1)) l) ≡ differ odd (parity_left w (x ∷ l))
unfolding parity_left odd_marked parity
parity_turn w x l odd =
    let m = marked w x in
    let b = odd_below x l in
    let c = odd_marked w l in
    differ_turn m odd (differ (odd_marked (bit_xor w (2 ^ x - 1)) l) (parity l))
    ∙ ap (λ (t : Bool). differ odd (differ m (differ t (parity l)))) (odd_marked-more w x l)
    ∙ ap (λ (t : Bool). differ odd (differ m t)) (differ_turn b c (parity l))
    ∙ ap (differ odd) (differ_swap m c (differ b (parity l)) ∙ sym (differ_turn m c (differ b (parity l))))

-- before entry i, the inversions so far and what is left give the parity
abbrev pub Inversions : List ℕ → ℕ → Bool → ℕ → Type 0
Inversions o w odd i = differ odd (parity_left w (drop i o)) ≡ parity o

pub inversions_start : (o : List ℕ) → Inversions o 0 false 0
inversions_start o = parity_start o

pub inversions_turn : (o : List ℕ) (w : ℕ) (odd : Bool) (i : ℕ) → Inversions o w odd i → i < length o → Inversions o (bit_xor w (2 ^ get_or o i 0 - 1)) (differ (marked w (get_or o i 0)) odd) (i + 1)
inversions_turn o w odd i p h = parity_turn w (get_or o i 0) (drop (i + 1) o) odd ∙ ap (λ (m : List ℕ). differ odd (parity_left w m)) (sym (rest_turn o i h)) ∙ p

pub inversions_end : (o : List ℕ) (w : ℕ) (odd : Bool) (i : ℕ) → Inversions o w odd i → length o ≤ i → odd ≡ parity o
inversions_end o w odd i p h = sym (differ_false odd) ∙ ap (differ odd) (sym (ap (parity_left w) (rest_end o i h) ∙ parity_end w)) ∙ p

-- ---- both in one word: its low half marks those that an odd number of what has come is above, its high half those that have come an odd number of times

ones_fit : (x : ℕ) → x < 32 → 2 ^ x - 1 < 2 ^ 32
ones_fit x h = let p : 2 ^ x < 2 ^ 32 = pow-lt h in omega arith

low_mark : (w x : ℕ) → x < 32 → bit_xor w (mark_of x) % 2 ^ 32 ≡ bit_xor (w % 2 ^ 32) (2 ^ x - 1)
low_mark w x h = xor_mod w (mark_of x) 32 ∙ ap (bit_xor (w % 2 ^ 32)) (low (2 ^ x) 32 (ones_fit x h))

high_mark : (w x : ℕ) → x < 32 → bit_xor w (mark_of x) / 2 ^ 32 ≡ bit_xor (w / 2 ^ 32) (2 ^ x)
high_mark w x h = xor_shr w (mark_of x) 32 ∙ ap (bit_xor (w / 2 ^ 32)) (high (2 ^ x) 32 (ones_fit x h))

marked_low : (w x : ℕ) → x < 32 → marked (w % 2 ^ 32) x ≡ marked w x
marked_low w x h =
    let j = 31 - x in
    let e : 32 ≡ (j + 1) + x = omega arith in
    ap (λ (k : ℕ). eqb (w % 2 ^ k / 2 ^ x % 2) 1) e ∙ ap (λ (k : ℕ). eqb (k % 2) 1) (field w (j + 1) x) ∙ ap (λ (k : ℕ). eqb k 1) (mod-mod-pow (w / 2 ^ x) j 1)

differ_commutes : (a b : Bool) → differ a b ≡ differ b a
differ_commutes false false = refl
differ_commutes false true = refl
differ_commutes true false = refl
differ_commutes true true = refl

-- bit 0 of the inversions
odd_mark : (w p x : ℕ) → x < 32 → eqb (bit_xor p (w / 2 ^ x) % 2) 1 ≡ differ (marked (w % 2 ^ 32) x) (eqb (p % 2) 1)
odd_mark w p x h =
    ap (λ (k : ℕ). eqb k 1) (xor_mod p (w / 2 ^ x) 1) ∙ digits_xor (p % 2) (w / 2 ^ x % 2) (mod-lt p (omega arith)) (mod-lt (w / 2 ^ x) (omega arith))
    ∙ differ_commutes (eqb (p % 2) 1) (marked w x) ∙ ap (λ (t : Bool). differ t (eqb (p % 2) 1)) (sym (marked_low w x h))

differ_three : (a b c : Bool) → differ (differ a b) c ≡ differ a (differ b c)
differ_three false b c = refl
differ_three true false c = refl
differ_three true true c = sym (not-not c)

-- before entry i: the inversions, what has come and what is left, and that all that has come is below n
pub record Marking (n : ℕ) (o : List ℕ) (m : Marks) (i : ℕ) : Type 0 where
  pub inversions : Inversions o (m.word % 2 ^ 32) (eqb (m.inversions % 2) 1) i
  pub coming : (x : ℕ) → differ (marked (m.word / 2 ^ 32) x) (oddly x (drop i o)) ≡ oddly x o
  pub bounded : all_below n (drop i o) ≡ all_below n o

pub marking : (n : ℕ) (o : List ℕ) → Marking n o marks_none 0
marking n o = record { inversions = inversions_start o; coming = λ x. ap (λ (t : Bool). differ t (oddly x o)) (marked_zero x); bounded = refl }

pub mark_turn : (n : ℕ) (o : List ℕ) (m : Marks) (i : ℕ) → Marking n o m i → i < length o → get_or o i 0 < n → n ≤ largest.n → Marking n o (marks_with m (get_or o i 0)) (i + 1)
unfolding oddly all_below
mark_turn n o m i k h below small =
    let x = get_or o i 0 in
    let rest = drop (i + 1) o in
    let fits : x < 32 = omega arith in
    record {
      inversions = (λ j. differ (odd_mark m.word m.inversions x fits j) (parity_left (low_mark m.word x fits j) rest)) ∙ inversions_turn o (m.word % 2 ^ 32) (eqb (m.inversions % 2) 1) i k.inversions h;
      coming = λ y.
          ap (λ (t : Bool). differ t (oddly y rest)) (ap (λ (w : ℕ). marked w y) (high_mark m.word x fits) ∙ marked_xor (m.word / 2 ^ 32) (2 ^ x) y ∙ ap (differ (marked (m.word / 2 ^ 32) y)) (marked_one x y))
          ∙ differ_three (marked (m.word / 2 ^ 32) y) (eqb x y) (oddly y rest)
          ∙ ap (λ (l : List ℕ). differ (marked (m.word / 2 ^ 32) y) (oddly y l)) (sym (rest_turn o i h)) ∙ k.coming y;
      bounded = ap (λ (t : Bool). t && all_below n rest) (sym (lt-ltb x n below)) ∙ ap (all_below n) (sym (rest_turn o i h)) ∙ k.bounded;
    }

-- an entry that is not below n
pub mark_stop : (n : ℕ) (o : List ℕ) (m : Marks) (i : ℕ) → Marking n o m i → i < length o → n ≤ get_or o i 0 → is_order n o ≡ false
unfolding all_below
mark_stop n o m i k h past = go (is_order n o) (order_all_below n o) (sym k.bounded ∙ ap (all_below n) (rest_turn o i h) ∙ ap (λ (t : Bool). t && all_below n (drop (i + 1) o)) (le-ltb (get_or o i 0) n past))
  where
    go : (t : Bool) → (t ≡ true → all_below n o ≡ true) → all_below n o ≡ false → t ≡ false
    go false f e = refl
    go true f e = sym (f refl) ∙ e

-- words of the same marks are the same
same_words : (k a b : ℕ) → a ≤ k → b ≤ k → ((x : ℕ) → marked a x ≡ marked b x) → a ≡ b
same_words zero a b h l f = omega arith
same_words (suc k) a b h l f =
    let half = same_words k (a / 2) (b / 2) (omega arith) (omega arith) (λ x. ap (λ (j : ℕ). eqb (j % 2) 1) (shr-shr a 1 x) ∙ f (1 + x) ∙ ap (λ (j : ℕ). eqb (j % 2) 1) (sym (shr-shr b 1 x))) in
    let digit = go (a % 2) (b % 2) (mod-lt a (omega arith)) (mod-lt b (omega arith)) (first a ∙ f 0 ∙ sym (first b)) in
    omega arith
  where
    first : (c : ℕ) → eqb (c % 2) 1 ≡ marked c 0
    first c = ap (λ (j : ℕ). eqb (j % 2) 1) (let e : c ≡ c / 1 = omega arith in e)

    go : (p q : ℕ) → p < 2 → q < 2 → eqb p 1 ≡ eqb q 1 → p ≡ q
    go zero zero u v e = refl
    go zero (suc zero) u v e = ap (λ (t : Bool). cond t 1 0) e
    go (suc zero) zero u v e = ap (λ (t : Bool). cond t 1 0) e
    go (suc zero) (suc zero) u v e = refl
    go zero (suc (suc q)) u v e = absurd (omega arith)
    go (suc zero) (suc (suc q)) u v e = absurd (omega arith)
    go (suc (suc p)) q u v e = absurd (omega arith)

-- the walk is over: the word decides whether it was an order
pub mark_full : (n : ℕ) (o : List ℕ) (m : Marks) (i : ℕ) → Marking n o m i → length o ≤ i → length o ≡ n → is_full n m.word ≡ is_order n o
unfolding oddly all_below
mark_full n o m i k h long = go (is_order n o) (ℕ_discrete w (2 ^ n - 1)) (order_oddly n o below long) (oddly_order n o below long)
  where
    w : ℕ
    w = m.word / 2 ^ 32

    below : all_below n o ≡ true
    below = sym k.bounded ∙ ap (all_below n) (rest_end o i h)

    come : (x : ℕ) → marked w x ≡ oddly x o
    come x = sym (differ_false (marked w x)) ∙ ap (λ (l : List ℕ). differ (marked w x) (oddly x l)) (sym (rest_end o i h)) ∙ k.coming x

    go : (t : Bool) → Dec (w ≡ 2 ^ n - 1) → (t ≡ true → (x : ℕ) → oddly x o ≡ ltb x n) → (((x : ℕ) → x < n → oddly x o ≡ true) → t ≡ true) → eqb w (2 ^ n - 1) ≡ t
    go t (yes e) f g = eq-eqb w (2 ^ n - 1) e ∙ sym (g (λ x u. sym (come x) ∙ ap (λ (j : ℕ). marked j x) e ∙ marked_below n x ∙ lt-ltb x n u))
    go false (no e) f g = ne_eqb w (2 ^ n - 1) e
    go true (no e) f g = absurd (e (same_words (w + (2 ^ n - 1)) w (2 ^ n - 1) (omega arith) (omega arith) (λ x. come x ∙ f refl x ∙ sym (marked_below n x))))

-- and its parity
pub mark_odd : (n : ℕ) (o : List ℕ) (m : Marks) (i : ℕ) → Marking n o m i → length o ≤ i → eqb (m.inversions % 2) 1 ≡ parity o
mark_odd n o m i k h = inversions_end o (m.word % 2 ^ 32) (eqb (m.inversions % 2) 1) i k.inversions h
