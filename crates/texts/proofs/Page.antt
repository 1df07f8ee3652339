-- What is written piece by piece is written as a whole: the one law of the writers. Assumes nothing.
use Prim.Native.Nat.{ℕ, suc, ◌+◌, ◌-◌, ◌<◌, ◌≤◌}
use mathlib.Core.Path.{◌≡◌, refl, sym, ap, ◌∙◌, subst}
use mathlib.Core.Bool.{Bool, true, false, cond}
use mathlib.Core.List.{List, [], ◌∷◌, ◌++◌, append_assoc}
use native.Mathlib.Omega.{arith}
use lib.Dec.{ltb}
use borrow.Rule.Slice.PartMut.{put_mid}
use Rattle.std.proofs.lemmas.Slice.{put_mid-paste}
use Rattle.std.proofs.lemmas.List.Edits.{paste_all}
use lib.Seq.{sets, sets-eq, length-take-le}
use borrow.Author.Tests.{ltb-true, ltb-false, lt-ltb, le-ltb}
use lib.ListN.{length, length-set, set, take, drop, take-append-drop, drop_of_length-le}
use Rattle.texts.specs.declared.write.Writer.{Writer}
use Rattle.texts.specs.Page.{Page, page, with_byte, written, page_of, Puts, Fitting}

pub written_append : (p : Page) (a b : List ℕ) → written (written p a) b ≡ written p (a ++ b)
unfolding written
written_append p [] b = refl
written_append p (x ∷ a) b = written_append (with_byte p x) a b

module _ (p : Page) where
  -- after the text a, the text b more
  pub then : {q r : Page} (a b : List ℕ) → q ≡ written p a → r ≡ written q b → r ≡ written p (a ++ b)
  then a b g h = h ∙ ap (λ (s : Page). written s b) g ∙ written_append p a b

pub written_length : (p : Page) (a : List ℕ) → length (written p a).bytes ≡ length p.bytes
unfolding written
written_length p [] = refl
written_length p (x ∷ a) = written_length (with_byte p x) a ∙ by (ltb p.used (length p.bytes))
  where
    by : (b : Bool) → length (cond b (page (set p.bytes p.used x) (p.used + 1)) p).bytes ≡ length p.bytes
    by true = length-set p.bytes p.used x
    by false = refl

-- what is written stays within the page
pub written_within : (p : Page) (a : List ℕ) → p.used ≤ length p.bytes → (written p a).used ≤ length (written p a).bytes
unfolding written
written_within p [] h = h
written_within p (x ∷ a) h = written_within (with_byte p x) a (by (ltb p.used (length p.bytes)) refl)
  where
    by : (b : Bool) → ltb p.used (length p.bytes) ≡ b → (cond b (page (set p.bytes p.used x) (p.used + 1)) p).used ≤ length (cond b (page (set p.bytes p.used x) (p.used + 1)) p).bytes
    by true e = let g : p.used < length p.bytes = ltb-true p.used (length p.bytes) e in simp length-set (omega arith)
    by false e = h

-- a text that fits: its bytes in a row, and their count
pub written_fits : (l : List ℕ) (at : ℕ) (a : List ℕ) → at + length a ≤ length l → written (page l at) a ≡ page (sets l at a) (at + length a)
unfolding written
written_fits l at [] h = ap (page l) (let e : at ≡ at + 0 = omega arith in e)
written_fits l at (x ∷ a) h =
    let g : at < length l = omega arith in
    ap (λ (b : Bool). written (cond b (page (set l at x) (at + 1)) (page l at)) a) (lt-ltb at (length l) g)
    ∙ written_fits (set l at x) (at + 1) a (simp length-set (omega arith))
    ∙ ap (λ (k : ℕ). page (sets (set l at x) k a) (k + length a)) (let e : at + 1 ≡ suc at = omega arith in e)
    ∙ ap (page (sets (set l at x) (suc at) a)) (let e : suc at + length a ≡ at + suc (length a) = omega arith in e)

-- a number within a list counts its first part
pub counts : (l : List ℕ) (n : ℕ) → n ≤ length l → (n ≤ length l) × (n ≡ length (take n l))
counts l n h = (h, sym (length-take-le n l h))

-- the count of what was written on a new page is one of its bytes
pub counted : (l m : List ℕ) (r : ℕ) (a : List ℕ) → page m r ≡ written (page l 0) a → (r ≤ length m) × (r ≡ length (take r m))
counted l m r a e =
    counts m r (subst (λ (p : Page). p.used ≤ length p.bytes) (sym e) (written_within (page l 0) a (omega arith)))

-- ---- a text as far as it fits: one test for all of it
-- a page that is full takes no more
written_full : (l : List ℕ) (at : ℕ) (a : List ℕ) → length l ≤ at → written (page l at) a ≡ page l at
unfolding written
written_full l at [] h = refl
written_full l at (x ∷ a) h = ap (λ (b : Bool). written (cond b (page (set l at x) (at + 1)) (page l at)) a) (le-ltb at (length l) h) ∙ written_full l at a h

-- a part of the page replaced by a text of its length
part_put : (l : List ℕ) (at k : ℕ) (t : List ℕ) → length t ≡ k → at + k ≤ length l → page (put_mid at k l t) (at + k) ≡ written (page l at) t
part_put l at k t e h =
    let all : written (page l at) t ≡ page (sets l at t) (at + length t) = written_fits l at t (omega arith) in
    let part : sets l at t ≡ put_mid at k l t =
    sets-eq t l at (omega arith)
    ∙ ap (λ (n : ℕ). take at l ++ t ++ drop (at + n) l) e
    ∙ append_assoc (take at l) t (drop (at + k) l)
    ∙ sym (put_mid-paste at k l t t k refl refl (sym e) ∙ paste_all l at t k (sym e)) in
    sym (all ∙ ap (λ (x : List ℕ). page x (at + length t)) part ∙ ap (λ (n : ℕ). page (put_mid at k l t) (at + n)) e)

-- a text as far as it fits after the first `at` of l: count of its bytes
module _ (l : List ℕ) (at : ℕ) (t : List ℕ) (count : ℕ) (fits : Fitting (length l) at (length t) count) where
  -- what fits is all, or the page is full
  rest_put : (out : List ℕ) → length out ≡ length l → page out (at + count) ≡ written (page l at) (take count t) → page out (at + count) ≡ written (page l at) t
  unfolding written
  rest_put out size put =
      then (page l at) (take count t) (drop count t) put (sym (rest (ltb count (length t)) refl))
      ∙ ap (written (page l at)) (take-append-drop count t)
    where
      rest : (b : Bool) → ltb count (length t) ≡ b → written (page out (at + count)) (drop count t) ≡ page out (at + count)
      rest true e = let full = fits.full (ltb-true count (length t) e) in written_full out (at + count) (drop count t) (omega arith)
      rest false e = ap (written (page out (at + count))) (drop_of_length-le t (ltb-false count (length t) e))

  pub some_put : (k : ℕ) (part : List ℕ) → k ≡ count → part ≡ take count t → 0 < count → page (put_mid at k l part) (at + count) ≡ written (page l at) t
  some_put k part e f h =
      subst (λ (n : ℕ). page (put_mid at n l part) (at + count) ≡ written (page l at) t) (sym e)
      (subst (λ (x : List ℕ). page (put_mid at count l x) (at + count) ≡ written (page l at) t) (sym f)
      (rest_put (put_mid at count l (take count t)) size (part_put l at count (take count t) long (omega arith))))
    where
      m : count ≤ length t
      m = fits.most

      i : count ≤ length l - at
      i = fits.inside

      long : length (take count t) ≡ count
      long = length-take-le count t m

      size : length (put_mid at count l (take count t)) ≡ length l
      size = ap (λ (p : Page). length p.bytes) (part_put l at count (take count t) long (omega arith)) ∙ written_length (page l at) (take count t)

  pub none_put : count ≡ 0 → page l at ≡ written (page l at) t
  unfolding written
  none_put e = subst (λ (n : ℕ). page l n ≡ written (page l at) t) (let z : at + count ≡ at = omega arith in z) (rest_put l refl (ap (page l) (let z : at + count ≡ at = omega arith in z) ∙ ap (λ (n : ℕ). written (page l at) (take n t)) (sym e)))

-- ---- writers: one text after the other
pub puts_none : {w : Writer} → Puts w w []
unfolding written
puts_none = record { lent = refl; put = refl }

pub puts_then : {u v w : Writer} (a b : List ℕ) → Puts u v a → Puts v w b → Puts u w (a ++ b)
puts_then {u} a b f g = record { lent = g.lent ∙ f.lent; put = then (page_of u) a b f.put g.put }

pub puts_as : {u v : Writer} {a b : List ℕ} → Puts u v a → a ≡ b → Puts u v b
puts_as {u} f e = record { lent = f.lent; put = f.put ∙ ap (written (page_of u)) e }

-- from a new writer to the buffer that it leaves
pub puts_all : {v w : Writer} {l out : List ℕ} (a : List ℕ) → page_of v ≡ page l 0 → Puts v w a → out ≡ w.out.now → page out w.used ≡ written (page l 0) a
puts_all {w = w} a e f h = ap (λ (m : List ℕ). page m w.used) h ∙ f.put ∙ ap (λ (p : Page). written p a) e
