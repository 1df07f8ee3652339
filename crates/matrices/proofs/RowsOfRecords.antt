-- Rows exchanged float by float are rows exchanged record by record. Assumes nothing.
use Prim.Native.Nat.{ℕ, ◌+◌, ◌-◌, ◌*◌, ◌/◌, ◌≤◌, ◌<◌}
use mathlib.Core.Path.{◌≡◌, refl, ap, sym, ◌∙◌}
use mathlib.Core.List.{List}
use native.Mathlib.Nat.{mul-le-mul_right, mul_assoc, add-mul}
use native.Mathlib.Decide.{dec_lt}
use native.Mathlib.Omega.{arith}
use lib.ListN.{length, get_or, set, length-set}
use lib.Seq.{get_or-set_same, get_or-set_other}
use lib.Ieee.{Float}
use Rattle.std.specs.Prelude.{Result, Ok, Err}
use Rattle.real.specs.Operations as float
use Rattle.algebra.specs.Algebra.{Algebra, RealParts, reals, zero_of}
use Rattle.algebra.specs.Flat.{Layout, Lawful, Agrees, record_at, record_count, decode}
use Rattle.algebra.proofs.Flat.{decode_length, decode_size, decode_at, decode_is, decode_reals, record_same}
use Rattle.algebra.proofs.Loop.{upto_reach}
use Rattle.matrices.specs.Matrix.{Square, exchange, exchange_rows}
use Rattle.matrices.specs.Lu.{going, bring_pivot, bring_pivot_flat, pivot_of, reduce_run, column}
use Rattle.matrices.specs.RunAfter.{run_after}
use Rattle.matrices.specs.declared.NoPivot.{NoPivot}
use Rattle.matrices.proofs.Lu.{pivot_row}
use Rattle.matrices.proofs.Places.{row_there, row_inside, flat_row}
use Rattle.matrices.proofs.Slopes.{map_run, bring_pivot-carry, pivot_map}

-- two places of different rows differ
apart : (k p q e c : ℕ) → (p ≡ q → ⊥) → e < k → c < k → p * k + e ≡ q * k + c → ⊥
apart k p q e c ne he hc x = go (dec_lt p q)
  where
    go : Dec (p < q) → ⊥
    go (yes l) = omega (arith, mul-le-mul_right k l)
    go (no l) = let g : q < p = omega arith in omega (arith, mul-le-mul_right k g)

-- l with the first c elements of the rows p and q exchanged is m
pub record Exchanged {B : Type 0} (d : B) (k p q : ℕ) (l : List B) (c : ℕ) (m : List B) : Type 0 where
  pub size : length m ≡ length l
  pub upper : (e : ℕ) → e < c → get_or m (p * k + e) d ≡ get_or l (q * k + e) d
  pub lower : (e : ℕ) → e < c → get_or m (q * k + e) d ≡ get_or l (p * k + e) d
  pub rest : (j : ℕ) → ((e : ℕ) → e < c → j ≡ p * k + e → ⊥) → ((e : ℕ) → e < c → j ≡ q * k + e → ⊥) → get_or m j d ≡ get_or l j d

module _ {B : Type 0} (d : B) (k p q : ℕ) (l : List B) (ne : p ≡ q → ⊥) (hp : p * k + k ≤ length l) (hq : q * k + k ≤ length l) where
  one_more_lem : (c : ℕ) (m : List B) → c < k → Exchanged d k p q l c m → Exchanged d k p q l (c + 1) (exchange d (p * k + c) (q * k + c) m)
  unfolding exchange
  one_more_lem c m hc x = record {
    size = length-set (set m X u) Y v ∙ length-set m X u ∙ x.size;
    upper = λ e h. up e h (dec_lt e c);
    lower = λ e h. low e h (dec_lt e c);
    rest = λ j f g. away j (f c (omega arith)) (g c (omega arith)) ∙ x.rest j (λ e h. f e (omega arith)) (λ e h. g e (omega arith));
  }
    where
      X : ℕ
      X = p * k + c

      Y : ℕ
      Y = q * k + c

      u : B
      u = get_or m Y d

      v : B
      v = get_or m X d

      old_u : u ≡ get_or l Y d
      old_u = x.rest Y (λ e h z. apart k p q e c ne (omega arith) hc (sym z)) (λ e h z. omega arith)

      old_v : v ≡ get_or l X d
      old_v = x.rest X (λ e h z. omega arith) (λ e h z. apart k p q c e ne hc (omega arith) z)

      away : (j : ℕ) → (j ≡ X → ⊥) → (j ≡ Y → ⊥) → get_or (set (set m X u) Y v) j d ≡ get_or m j d
      away j a b = get_or-set_other (set m X u) Y j v d b ∙ get_or-set_other m X j u d a

      up : (e : ℕ) → e < c + 1 → Dec (e < c) → get_or (set (set m X u) Y v) (p * k + e) d ≡ get_or l (q * k + e) d
      up e h (yes b) = away (p * k + e) (λ z. omega arith) (λ z. apart k p q e c ne (omega arith) hc z) ∙ x.upper e b
      up e h (no b) =
          let s : e ≡ c = omega arith in
          rw s (get_or-set_other (set m X u) Y X v d (λ z. apart k p q c c ne hc hc z) ∙ get_or-set_same m X u d (omega (arith, x.size)) ∙ old_u)

      low : (e : ℕ) → e < c + 1 → Dec (e < c) → get_or (set (set m X u) Y v) (q * k + e) d ≡ get_or l (p * k + e) d
      low e h (yes b) = away (q * k + e) (λ z. apart k p q c e ne hc (omega arith) (sym z)) (λ z. omega arith) ∙ x.lower e b
      low e h (no b) =
          let s : e ≡ c = omega arith in
          rw s (get_or-set_same (set m X u) Y v d (omega (arith, x.size, length-set m X u)) ∙ old_v)

  pub all_exchanged : Exchanged d k p q l k (exchange_rows d k p q l)
  unfolding exchange_rows
  all_exchanged =
      upto_reach (Exchanged d k p q l) (λ c. exchange d (p * k + c) (q * k + c)) 0 k (omega arith) (λ c m a b x. one_more_lem c m b x) l
      (record { size = refl; upper = λ e h. absurd (omega arith); lower = λ e h. absurd (omega arith); rest = λ j f g. refl })

module _ {R : Type 0} (L : Layout R) (W : Lawful L) (n : ℕ) (l : List Float) (s : Square L.width n l) where
  -- a record of row p in the one list is that of row q in the other, if their floats are so
  record_row : (l' : List Float) (p q c : ℕ) → c < n → ((e : ℕ) → e < n * L.width → get_or l' (p * (n * L.width) + e) float.zero ≡ get_or l (q * (n * L.width) + e) float.zero)
      → record_at L l' (p * n + c) ≡ record_at L l (q * n + c)
  record_row l' p q c hc f =
      record_same L W l' l (p * n + c) (q * n + c)
      (λ i b.
      let m = mul-le-mul_right L.width hc in
      let x : (p * n + c) * L.width + i ≡ p * (n * L.width) + (c * L.width + i) = omega (arith, flat_row L.width n p c) in
      let y : q * (n * L.width) + (c * L.width + i) ≡ (q * n + c) * L.width + i = omega (arith, flat_row L.width n q c) in
      ap (λ (j : ℕ). get_or l' j float.zero) x ∙ f (c * L.width + i) (omega arith) ∙ ap (λ (j : ℕ). get_or l j float.zero) y)

  -- a float of a record outside row p is none of that row's
  outside : (r p i e : ℕ) → (p * n ≤ r → r < p * n + n → ⊥) → i < L.width → e < n * L.width → r * L.width + i ≡ p * (n * L.width) + e → ⊥
  outside r p i e out b h z = go (dec_lt r (p * n))
    where
      a : p * n * L.width ≡ p * (n * L.width)
      a = mul_assoc p n L.width

      go : Dec (r < p * n) → ⊥
      go (yes lt) = omega (arith, mul-le-mul_right L.width lt, a)
      go (no ge) =
          go2 (dec_lt r (p * n + n))
        where
          go2 : Dec (r < p * n + n) → ⊥
          go2 (yes lt) = out (omega arith) lt
          go2 (no ge2) = let m : p * n + n ≤ r = omega arith in omega (arith, mul-le-mul_right L.width m, add-mul (p * n) n L.width, a)

  pub decode-exchange_rows : (d : R) (p q : ℕ) → p < n → q < n → (p ≡ q → ⊥) → decode L (exchange_rows float.zero (n * L.width) p q l) ≡ exchange_rows d n p q (decode L l)
  decode-exchange_rows d p q hp hq ne =
      decode_is L W l' m d (count ∙ sym (b.size ∙ decode_length L W l ∙ full))
      (λ r h. go r (omega (arith, count)) (dec_lt r (p * n)) (dec_lt r (p * n + n)) (dec_lt r (q * n)) (dec_lt r (q * n + n)))
    where
      w : ℕ
      w = L.width

      l' : List Float
      l' = exchange_rows float.zero (n * L.width) p q l

      m : List R
      m = exchange_rows d n p q (decode L l)

      full : record_count L l ≡ n * n
      full = decode_size L W l (n * n) s.full

      long : length (decode L l) ≡ n * n
      long = decode_length L W l ∙ full

      a : Exchanged float.zero (n * L.width) p q l (n * L.width) l'
      a = all_exchanged float.zero (n * L.width) p q l ne (row_inside L.width n l p s hp) (row_inside L.width n l q s hq)

      b : Exchanged d n p q (decode L l) n m
      b = all_exchanged d n p q (decode L l) ne (omega (arith, long, row_there n p hp)) (omega (arith, long, row_there n q hq))

      count : record_count L l' ≡ n * n
      count = ap (λ (k : ℕ). k / L.width) a.size ∙ full

      upper : (r : ℕ) → p * n ≤ r → r < p * n + n → record_at L l' r ≡ get_or m r d
      upper r lo hi =
          let e : r ≡ p * n + (r - p * n) = omega arith in
          let t : r - p * n < n = omega arith in
          rw e (record_row l' p q (r - p * n) t a.upper ∙ sym (b.upper (r - p * n) t ∙ decode_at L W l (q * n + (r - p * n)) d (omega (arith, full, row_there n q hq))))

      lower : (r : ℕ) → q * n ≤ r → r < q * n + n → record_at L l' r ≡ get_or m r d
      lower r lo hi =
          let e : r ≡ q * n + (r - q * n) = omega arith in
          let t : r - q * n < n = omega arith in
          rw e (record_row l' q p (r - q * n) t a.lower ∙ sym (b.lower (r - q * n) t ∙ decode_at L W l (p * n + (r - q * n)) d (omega (arith, full, row_there n p hp))))

      rest : (r : ℕ) → r < n * n → (p * n ≤ r → r < p * n + n → ⊥) → (q * n ≤ r → r < q * n + n → ⊥) → record_at L l' r ≡ get_or m r d
      rest r h u v =
          record_same L W l' l r r (λ i c. a.rest (r * L.width + i) (λ e k z. outside r p i e u c k z) (λ e k z. outside r q i e v c k z))
          ∙ sym (b.rest r (λ e k z. u (omega arith) (omega arith)) (λ e k z. v (omega arith) (omega arith)) ∙ decode_at L W l r d (omega (arith, full)))

      go : (r : ℕ) → r < n * n → Dec (r < p * n) → Dec (r < p * n + n) → Dec (r < q * n) → Dec (r < q * n + n) → record_at L l' r ≡ get_or m r d
      go r h (no x) (yes y) z t = upper r (omega arith) y
      go r h (yes x) y (no z) (yes t) = lower r (omega arith) t
      go r h (yes x) y (yes z) t = rest r h (λ f g. omega arith) (λ f g. omega arith)
      go r h (yes x) y (no z) (no t) = rest r h (λ f g. omega arith) (λ f g. omega arith)
      go r h (no x) (no y) (no z) (yes t) = lower r (omega arith) t
      go r h (no x) (no y) (yes z) t = rest r h (λ f g. omega arith) (λ f g. omega arith)
      go r h (no x) (no y) (no z) (no t) = rest r h (λ f g. omega arith) (λ f g. omega arith)

  -- what the code brings up by real parts and floats is what the record's definition does
  pub decode-bring_pivot : (A : Algebra R) → RealParts A → Agrees A L → (i : ℕ) (p : List ℕ) (swaps : ℕ) → i < n
      → map_run (decode L) (bring_pivot_flat L.width n i l p swaps) ≡ bring_pivot (zero_of A) n (pivot_of A n (decode L l) i) i (decode L l) p swaps
  decode-bring_pivot A K G i p swaps h =
      let e = pivot_map A reals A.re K n (decode L l) i ∙ ap (λ (m : List Float). pivot_of reals n m i) (decode_reals L W A G l) in
      rw (← e)
      (bring_pivot-carry (decode L) float.zero (zero_of A) (n * L.width) n (pivot_of A n (decode L l) i) i l p swaps
      (λ ne. let b = pivot_row A n (decode L l) i h in decode-exchange_rows (zero_of A) i (pivot_of A n (decode L l) i).row h b.1 (λ z. ne (sym z))))

  -- a column of LU, from what the code has brought up
  pub column_by : (A : Algebra R) → RealParts A → Agrees A L → (i : ℕ) (p : List ℕ) (swaps : ℕ) → i < n → (r : Result ℕ NoPivot) (l' : List Float) (p' : List ℕ)
      → run_after r l' p' ≡ bring_pivot_flat L.width n i l p swaps
      → column A n i (going (decode L l) p swaps) ≡ reduce_run A n i (run_after r (decode L l') p')
  unfolding column
  column_by A K G i p swaps h r l' p' e = ap (reduce_run A n i) (sym (decode-bring_pivot A K G i p swaps h) ∙ ap (map_run (decode L)) (sym e) ∙ after r)
    where
      after : (t : Result ℕ NoPivot) → map_run (decode L) (run_after t l' p') ≡ run_after t (decode L l') p'
      after (Err e) = refl
      after (Ok s) = refl
