-- Two rows of one list exchanged as slices are the rows exchanged element by element: the list as five pieces, the second and the fourth of them exchanged. Assumes nothing.
use Prim.Native.Nat.{ℕ, suc, ◌+◌, ◌-◌, ◌*◌, ◌≤◌, ◌<◌}
use mathlib.Core.Path.{◌≡◌, ap, sym, ◌∙◌}
use mathlib.Core.List.{List, ◌++◌}
use native.Mathlib.Nat.{mul-le-mul_right}
use native.Mathlib.Decide.{dec_lt}
use native.Mathlib.Omega.{arith}
use lib.ListN.{length, get_or, take, drop, get_or-append, length-append}
use borrow.Rule.Slice.PartMut.{put_mid}
use Rattle.std.proofs.lemmas.List.{take-append-drop, append_assoc, length-take-le, length-drop}
use lib.Seq.{ext_get_or, get_or-append-add}
use Rattle.matrices.specs.Matrix.{exchange_rows}
use Rattle.matrices.proofs.RowsOfRecords.{Exchanged, all_exchanged}

module _ {B : Type 0} (d : B) where
  joined : List B → List B → List B → List B → List B → List B
  joined a x b y c = a ++ (x ++ (b ++ (y ++ c)))

  module _ (a x b y c : List B) where
    joined_size : length (joined a x b y c) ≡ length a + (length x + (length b + (length y + length c)))
    unfolding joined
    joined_size = omega (arith, length-append a (x ++ (b ++ (y ++ c))), length-append x (b ++ (y ++ c)), length-append b (y ++ c), length-append y c)

    first : (e : ℕ) → e < length a → get_or (joined a x b y c) e d ≡ get_or a e d
    unfolding joined
    first e h = get_or-append a _ d e h

    second : (e : ℕ) → e < length x → get_or (joined a x b y c) (length a + e) d ≡ get_or x e d
    unfolding joined
    second e h = get_or-append-add a _ e d ∙ get_or-append x _ d e h

    third : (e : ℕ) → e < length b → get_or (joined a x b y c) (length a + (length x + e)) d ≡ get_or b e d
    unfolding joined
    third e h = get_or-append-add a _ _ d ∙ get_or-append-add x _ e d ∙ get_or-append b _ d e h

    fourth : (e : ℕ) → e < length y → get_or (joined a x b y c) (length a + (length x + (length b + e))) d ≡ get_or y e d
    unfolding joined
    fourth e h = get_or-append-add a _ _ d ∙ get_or-append-add x _ _ d ∙ get_or-append-add b _ e d ∙ get_or-append y _ d e h

    fifth : (e : ℕ) → get_or (joined a x b y c) (length a + (length x + (length b + (length y + e)))) d ≡ get_or c e d
    unfolding joined
    fifth e = get_or-append-add a _ _ d ∙ get_or-append-add x _ _ d ∙ get_or-append-add b _ _ d ∙ get_or-append-add y _ e d

  module _ (k p q : ℕ) (a v b u c : List B) (la : length a ≡ p * k) (lv : length v ≡ k) (lu : length u ≡ k) (lb : p * k + (k + length b) ≡ q * k) (before : p < q) where
    old : List B
    old = joined a v b u c

    new : List B
    new = joined a u b v c

    m : List B
    m = exchange_rows d k p q old

    x : Exchanged d k p q old k m
    unfolding old m
    x = all_exchanged d k p q old (λ z. omega arith) (omega (arith, joined_size a v b u c)) (omega (arith, joined_size a v b u c))

    at : (j : ℕ) → j < length new → get_or new j d ≡ get_or m j d
    unfolding old new
    at j h = go (dec_lt j (p * k)) (dec_lt j (p * k + k)) (dec_lt j (q * k)) (dec_lt j (q * k + k))
      where
        place : (i : ℕ) → i ≡ j → get_or new i d ≡ get_or m i d → get_or new j d ≡ get_or m j d
        place i e f = rw (← e) f

        go : Dec (j < p * k) → Dec (j < p * k + k) → Dec (j < q * k) → Dec (j < q * k + k) → get_or new j d ≡ get_or m j d
        go (yes r) s t w = first a u b v c j (omega arith) ∙ sym (first a v b u c j (omega arith)) ∙ sym (x.rest j (λ f z y. omega arith) (λ f z y. omega arith))
        go (no r) (yes s) t w =
            let e = j - p * k in
            let i : p * k + e ≡ j = omega arith in
            place (p * k + e) i (ap (λ (t : ℕ). get_or new t d) (omega arith) ∙ second a u b v c e (omega arith) ∙ sym (fourth a v b u c e (omega arith)) ∙ ap (λ (t : ℕ). get_or old t d) (omega arith) ∙ sym (x.upper e (omega arith)))
        go (no r) (no s) (yes t) w =
            let e = j - (p * k + k) in
            let i : length a + (length u + e) ≡ j = omega arith in
            place (length a + (length u + e)) i (third a u b v c e (omega arith) ∙ sym (third a v b u c e (omega arith)) ∙ ap (λ (t : ℕ). get_or old t d) (omega arith) ∙ sym (x.rest (length a + (length u + e)) (λ f z y. omega arith) (λ f z y. omega arith)))
        go (no r) (no s) (no t) (yes w) =
            let e = j - q * k in
            let i : q * k + e ≡ j = omega arith in
            place (q * k + e) i (ap (λ (t : ℕ). get_or new t d) (omega arith) ∙ fourth a u b v c e (omega arith) ∙ sym (second a v b u c e (omega arith)) ∙ ap (λ (t : ℕ). get_or old t d) (omega arith) ∙ sym (x.lower e (omega arith)))
        go (no r) (no s) (no t) (no w) =
            let e = j - (q * k + k) in
            let i : length a + (length u + (length b + (length v + e))) ≡ j = omega arith in
            place (length a + (length u + (length b + (length v + e)))) i (fifth a u b v c e ∙ sym (fifth a v b u c e) ∙ ap (λ (t : ℕ). get_or old t d) (omega arith) ∙ sym (x.rest (length a + (length u + (length b + (length v + e)))) (λ f z y. omega arith) (λ f z y. omega arith)))

    swapped : joined a u b v c ≡ exchange_rows d k p q (joined a v b u c)
    unfolding old new m
    swapped = ext_get_or d new m (joined_size a u b v c ∙ omega arith ∙ sym (joined_size a v b u c) ∙ sym x.size) at

  -- the same of a list in two parts, before and from row q on, as the slice's methods leave it
  pub sliced : (k p q w : ℕ) (l above below u v : List B) → p < q → q * k + k ≤ length l → w ≡ k → l ≡ above ++ below → length above ≡ q * k → u ≡ take k below → v ≡ take w (drop (p * k) above)
      → put_mid (p * k) w above u ++ (v ++ drop k below) ≡ exchange_rows d k p q l
  unfolding joined
  sliced k p q w l above below u v h inside ew parts long eu ev =
      let m : suc p * k ≤ q * k = mul-le-mul_right k h in
      let both : length l ≡ length above + length below = ap length parts ∙ length-append above below in
      let a = take (p * k) above in
      let x = take k (drop (p * k) above) in
      let b = drop k (drop (p * k) above) in
      let y = take k below in
      let c = drop k below in
      let la : length a ≡ p * k = length-take-le (p * k) above (omega arith) in
      let lx : length x ≡ k = length-take-le k (drop (p * k) above) (omega (arith, length-drop (p * k) above)) in
      let ly : length y ≡ k = length-take-le k below (omega arith) in
      let lb : p * k + (k + length b) ≡ q * k = omega (arith, length-drop (p * k) above, length-drop k (drop (p * k) above)) in
      let was : l ≡ joined a x b y c =
      parts ∙ (λ t. sym (take-append-drop (p * k) above) t ++ sym (take-append-drop k below) t)
      ∙ append_assoc a (drop (p * k) above) (y ++ c)
      ∙ ap (λ (z : List B). a ++ (z ++ (y ++ c))) (sym (take-append-drop k (drop (p * k) above)))
      ∙ ap (λ (z : List B). a ++ z) (append_assoc x b (y ++ c)) in
      let is : put_mid (p * k) w above u ++ (v ++ c) ≡ joined a y b x c =
      (λ t. put_mid (p * k) (ew t) above (eu t) ++ ((ev ∙ ap (λ (z : ℕ). take z (drop (p * k) above)) ew) t ++ c))
      ∙ append_assoc a (y ++ b) (x ++ c) ∙ ap (λ (z : List B). a ++ z) (append_assoc y b (x ++ c)) in
      is ∙ swapped k p q a x b y c la lx ly lb h ∙ ap (exchange_rows d k p q) (sym was)
