-- Records in a run of flat floats: what stands at a place, a store of one record, there and back. Once, whatever the width. Assumes nothing.
use Prim.Native.Nat.{ℕ, zero, suc, ◌+◌, ◌-◌, ◌*◌, ◌/◌, ◌%◌, ◌≤◌, ◌<◌}
use mathlib.Core.Path.{◌≡◌, refl, ap, sym, ◌∙◌}
use mathlib.Core.List.{List, [], ◌∷◌, map}
use native.Mathlib.Nat.{mul-le-mul_right, div-mul-le_self, mul-div_cancel, mod-lt, div-add-mod', div-lt_iff_lt-mul}
use native.Mathlib.Decide.{dec_lt, ℕ_discrete}
use native.Mathlib.Omega.{arith}
use lib.ListN.{length, get_or, set, replicate, length-set, length-replicate, length-append, get_or-replicate, get_or-append}
use lib.Seq.{ext_get_or, get_or-set_same, get_or-set_other, get_or-append-add, sets, length-sets}
use lib.Ieee.{Float}
use Rattle.real.specs.Operations as float
use Rattle.algebra.specs.Algebra.{Algebra, zero_of}
use Rattle.algebra.specs.Flat.{Layout, Lawful, Agrees, tabulate, real_parts, record_at, record_count, decode, encode}

-- ---- a table of a function's values

module _ {R : Type 0} where
  pub tabulate_length : (f : ℕ → R) (d k : ℕ) → length (tabulate f d k) ≡ d
  unfolding tabulate
  tabulate_length f zero k = refl
  tabulate_length f (suc d) k = ap suc (tabulate_length f d (suc k))

  pub tabulate_at : (f : ℕ → R) (d k j : ℕ) (x : R) → j < d → get_or (tabulate f d k) j x ≡ f (k + j)
  unfolding tabulate
  tabulate_at f zero k j x h = absurd (omega arith)
  tabulate_at f (suc d) k zero x h = ap f (omega arith)
  tabulate_at f (suc d) k (suc j) x h = tabulate_at f d (suc k) j x (omega arith) ∙ ap f (omega arith)

-- a table of floats from place 0 on, as a layout's law asks
pub tabulate_from : (f : ℕ → Float) (d j : ℕ) → j < d → get_or (tabulate f d 0) j float.zero ≡ f j
tabulate_from f d j h = tabulate_at f d 0 j float.zero h ∙ ap f (omega arith)

pub tabulate_map : {R S : Type 0} (h : R → S) (f : ℕ → R) (g : ℕ → S) → ((j : ℕ) → h (f j) ≡ g j) → (d k : ℕ) → map h (tabulate f d k) ≡ tabulate g d k
unfolding tabulate
tabulate_map h f g e zero k = refl
tabulate_map h f g e (suc d) k = λ i. e k i ∷ tabulate_map h f g e d (suc k) i

-- ---- a run of stores

module _ {R : Type 0} where
  sets_before : (vs l : List R) (q j : ℕ) (x : R) → j < q → get_or (sets l q vs) j x ≡ get_or l j x
  sets_before [] l q j x h = refl
  sets_before (a ∷ vs) l q j x h = sets_before vs (set l q a) (suc q) j x (omega arith) ∙ get_or-set_other l q j a x (λ e. omega arith)

  sets_after : (vs l : List R) (q j : ℕ) (x : R) → q + length vs ≤ j → get_or (sets l q vs) j x ≡ get_or l j x
  sets_after [] l q j x h = refl
  sets_after (a ∷ vs) l q j x h = sets_after vs (set l q a) (suc q) j x (omega arith) ∙ get_or-set_other l q j a x (λ e. omega arith)

  sets_at : (vs l : List R) (q i : ℕ) (x : R) → i < length vs → q + length vs ≤ length l → get_or (sets l q vs) (q + i) x ≡ get_or vs i x
  sets_at [] l q i x h f = absurd (omega arith)
  sets_at (a ∷ vs) l q zero x h f =
      let e : q + 0 ≡ q = omega arith in
      rw e (sets_before vs (set l q a) (suc q) q x (omega arith) ∙ get_or-set_same l q a x (omega arith))
  sets_at (a ∷ vs) l q (suc i) x h f =
      let e : q + suc i ≡ suc q + i = omega arith in
      rw e (sets_at vs (set l q a) (suc q) i x (omega arith) (omega (arith, length-set l q a)))

-- ---- places: the floats of record number p are those from p * w on, w of them

-- they end where those of the next record begin
next_place : (w p q : ℕ) → p < q → p * w + w ≤ q * w
next_place w p q h = let m = mul-le-mul_right w h in let e : suc p * w ≡ p * w + w = omega arith in omega arith

module _ {R : Type 0} (L : Layout R) (W : Lawful L) where
  -- the floats of a record that is there are there
  pub record_inside : (l : List Float) (p : ℕ) → p < record_count L l → p * L.width + L.width ≤ length l
  record_inside l p h = let m = next_place L.width p (record_count L l) h in let d = div-mul-le_self (length l) L.width in omega arith

  -- a record is there if its last float is
  pub record_there : (l : List Float) (p : ℕ) → p * L.width + (L.width - 1) < length l → p < record_count L l
  record_there l p h = go (dec_lt p (record_count L l))
    where
      go : Dec (p < record_count L l) → p < record_count L l
      go (yes b) = b
      go (no b) =
          let s = div-add-mod' (length l) L.width in
          let m = mod-lt (length l) W.positive in
          let k : record_count L l * L.width ≤ p * L.width = mul-le-mul_right L.width (omega arith) in
          let z = W.positive in
          absurd (omega arith)

  pub decode_length : (l : List Float) → length (decode L l) ≡ record_count L l
  unfolding decode
  decode_length l = tabulate_length (record_at L l) (record_count L l) 0

  pub decode_size : (l : List Float) (k : ℕ) → length l ≡ k * L.width → record_count L l ≡ k
  decode_size l k e = ap (λ (n : ℕ). n / L.width) e ∙ mul-div_cancel k W.positive

  pub decode_at : (l : List Float) (p : ℕ) (x : R) → p < record_count L l → get_or (decode L l) p x ≡ record_at L l p
  unfolding decode
  decode_at l p x h = tabulate_at (record_at L l) (record_count L l) 0 p x h ∙ ap (record_at L l) (omega arith)

  -- two runs of floats hold the same record at two places if their floats agree there
  pub record_same : (l l' : List Float) (p q : ℕ) → ((i : ℕ) → i < L.width → get_or l (p * L.width + i) float.zero ≡ get_or l' (q * L.width + i) float.zero) → record_at L l p ≡ record_at L l' q
  record_same l l' p q h = W.reads (λ i. get_or l (p * L.width + i) float.zero) (λ i. get_or l' (q * L.width + i) float.zero) h

  -- the records of a run of floats, from what each one is
  pub decode_is : (l : List Float) (m : List R) (x : R) → record_count L l ≡ length m → ((p : ℕ) → p < record_count L l → record_at L l p ≡ get_or m p x) → decode L l ≡ m
  decode_is l m x e h =
      ext_get_or x (decode L l) m (decode_length l ∙ e)
      (λ p b. let c : p < record_count L l = omega (arith, decode_length l) in decode_at l p x c ∙ h p c)

  -- a store of the parts of v at record number p is a store of v
  pub decode_store : (l : List Float) (p : ℕ) (v : R) → p < record_count L l → decode L (sets l (p * L.width) (L.parts v)) ≡ set (decode L l) p v
  decode_store l p v h =
      decode_is l' (set (decode L l) p v) v
      (ap (λ (n : ℕ). n / L.width) (length-sets l (p * L.width) (L.parts v)) ∙ sym (decode_length l) ∙ sym (length-set (decode L l) p v))
      (λ q b. go q (omega (arith, ap (λ (n : ℕ). n / L.width) (length-sets l (p * L.width) (L.parts v)))) (ℕ_discrete q p))
    where
      l' : List Float
      l' = sets l (p * L.width) (L.parts v)

      same : record_at L l' p ≡ v
      same =
          W.reads (λ i. get_or l' (p * L.width + i) float.zero) (λ i. get_or (L.parts v) i float.zero)
          (λ i b. sets_at (L.parts v) l (p * L.width) i float.zero (omega (arith, W.size v)) (omega (arith, W.size v, record_inside l p h)))
          ∙ W.whole v

      away : (q i : ℕ) → (q ≡ p → ⊥) → i < L.width → Dec (q < p) → get_or l' (q * L.width + i) float.zero ≡ get_or l (q * L.width + i) float.zero
      away q i ne b (yes lt) = sets_before (L.parts v) l (p * L.width) (q * L.width + i) float.zero (omega (arith, next_place L.width q p lt))
      away q i ne b (no ge) = sets_after (L.parts v) l (p * L.width) (q * L.width + i) float.zero (omega (arith, W.size v, next_place L.width p q (omega arith)))

      go : (q : ℕ) → q < record_count L l → Dec (q ≡ p) → record_at L l' q ≡ get_or (set (decode L l) p v) q v
      go q b (yes e) = ap (record_at L l') e ∙ same ∙ sym (ap (λ (k : ℕ). get_or (set (decode L l) p v) k v) e ∙ get_or-set_same (decode L l) p v v (omega (arith, decode_length l)))
      go q b (no ne) = record_same l' l q q (λ i c. away q i ne c (dec_lt q p)) ∙ sym (get_or-set_other (decode L l) p q v v ne ∙ decode_at l q v b)

  -- ---- there and back

  pub encode_length : (m : List R) → length (encode L m) ≡ length m * L.width
  unfolding encode
  encode_length [] = omega arith
  encode_length (x ∷ m) = length-append (L.parts x) (encode L m) ∙ let s = W.size x in let e = encode_length m in let d : suc (length m) * L.width ≡ length m * L.width + L.width = omega arith in omega arith

  encode_at : (m : List R) (p i : ℕ) (x : R) → p < length m → i < L.width → get_or (encode L m) (p * L.width + i) float.zero ≡ get_or (L.parts (get_or m p x)) i float.zero
  unfolding encode
  encode_at [] p i x h b = absurd (omega arith)
  encode_at (y ∷ m) zero i x h b =
      let e : 0 * L.width + i ≡ i = omega arith in
      rw e (get_or-append (L.parts y) (encode L m) float.zero i (omega (arith, W.size y)))
  encode_at (y ∷ m) (suc p) i x h b =
      let s = W.size y in
      let d : suc p * L.width ≡ p * L.width + L.width = omega arith in
      let e : suc p * L.width + i ≡ length (L.parts y) + (p * L.width + i) = omega arith in
      rw e (get_or-append-add (L.parts y) (encode L m) (p * L.width + i) float.zero ∙ encode_at m p i x (omega arith) b)

  pub decode_encode : (m : List R) → decode L (encode L m) ≡ m
  decode_encode [] = decode_is (encode L []) [] (L.make (λ i. float.zero)) (decode_size (encode L []) 0 (encode_length [])) (λ p h. absurd (omega (arith, decode_size (encode L []) 0 (encode_length []))))
  decode_encode (x ∷ m) =
      let c = decode_size (encode L (x ∷ m)) (length (x ∷ m)) (encode_length (x ∷ m)) in
      decode_is (encode L (x ∷ m)) (x ∷ m) x c
      (λ p h. W.reads (λ i. get_or (encode L (x ∷ m)) (p * L.width + i) float.zero) (λ i. get_or (L.parts (get_or (x ∷ m) p x)) i float.zero) (λ i b. encode_at (x ∷ m) p i x (omega arith) b) ∙ W.whole (get_or (x ∷ m) p x))

  pub encode_decode : (l : List Float) (k : ℕ) → length l ≡ k * L.width → encode L (decode L l) ≡ l
  encode_decode l k e =
      ext_get_or float.zero (encode L (decode L l)) l long
      (λ j h. let b : j < k * L.width = omega (arith, long) in
      let p : j / L.width < k = (div-lt_iff_lt-mul W.positive).1 b in
      let c = decode_size l k e in
      let back = div-add-mod' j L.width in
      ap (λ (t : ℕ). get_or (encode L (decode L l)) t float.zero) (sym back)
      ∙ encode_at (decode L l) (j / L.width) (j % L.width) none (omega (arith, decode_length l)) (mod-lt j W.positive)
      ∙ ap (λ (x : R). get_or (L.parts x) (j % L.width) float.zero) (decode_at l (j / L.width) none (omega arith))
      ∙ W.again (λ i. get_or l (j / L.width * L.width + i) float.zero) (j % L.width) (mod-lt j W.positive)
      ∙ ap (λ (t : ℕ). get_or l t float.zero) back)
    where
      none : R
      none = L.make (λ i. float.zero)

      long : length (encode L (decode L l)) ≡ length l
      long = encode_length (decode L l) ∙ ap (λ (n : ℕ). n * L.width) (decode_length l ∙ decode_size l k e) ∙ sym e

  -- ---- beside the operations

  module _ (A : Algebra R) (G : Agrees A L) where
    -- floats of +0.0 are records of zero
    pub decode_blank : (k : ℕ) → decode L (replicate (k * L.width) float.zero) ≡ replicate k (zero_of A)
    decode_blank k =
        let c = decode_size (replicate (k * L.width) float.zero) k (length-replicate (k * L.width) float.zero) in
        decode_is (replicate (k * L.width) float.zero) (replicate k (zero_of A)) (zero_of A) (c ∙ sym (length-replicate k (zero_of A)))
        (λ p h.
        W.reads (λ i. get_or (replicate (k * L.width) float.zero) (p * L.width + i) float.zero) (λ i. float.zero)
        (λ i b. get_or-replicate (k * L.width) (p * L.width + i) float.zero float.zero (omega (arith, next_place L.width p k (omega arith))))
        ∙ G.blank ∙ sym (get_or-replicate k p (zero_of A) (zero_of A) (omega arith)))

    -- the real parts of the records are the first floats of each
    pub decode_reals : (l : List Float) → map A.re (decode L l) ≡ real_parts L.width l
    unfolding decode real_parts
    decode_reals l =
        tabulate_map A.re (record_at L l) (λ p. get_or l (p * L.width) float.zero)
        (λ p. G.first (λ i. get_or l (p * L.width + i) float.zero) ∙ ap (λ (k : ℕ). get_or l k float.zero) (omega arith))
        (record_count L l) 0

    pub encode_reals : (m : List R) → real_parts L.width (encode L m) ≡ map A.re m
    encode_reals m = sym (decode_reals (encode L m)) ∙ ap (map A.re) (decode_encode m)
