-- One to so many decimal digits: the reader's three answers, and where a number ends. Assumes nothing.
use Prim.Native.Nat.{ℕ, ◌+◌, ◌<◌, ◌≤◌}
use mathlib.Core.Path.{◌≡◌, refl, sym, ap, ◌∙◌}
use mathlib.Core.Bool.{Bool, true, false, cond, ◌&&◌}
use mathlib.Core.List.{List}
use native.Mathlib.Omega.{arith}
use lib.Dec.{leb, ltb}
use borrow.Author.Tests.{leb-true, lt-ltb, le-leb, lt-leb}
use Rattle.texts.specs.declared.Number.{Number}
use Rattle.std.specs.Prelude.{Option, Some, None}
use Rattle.texts.specs.declared.Scan.{Scan}
use Rattle.texts.specs.Digits.{digit_run, number_at, scan_of}
use Rattle.texts.specs.Numbers.{number_from}
use Rattle.texts.proofs.Every.{both_true}

module _ (most : ℕ) (text : List ℕ) (p : ℕ) (s : Scan) (scanned : s ≡ scan_of 10 (most + 1) text p) where
  abbrev found : ℕ → Option Number
  found k = Some (record { value = number_at 10 text p k; end = p + k })

  picked : (k : ℕ) (b : Bool) → k ≡ digit_run 10 (most + 1) text p → (ltb 0 k && leb k most) ≡ b → cond b (found k) None ≡ number_from most text p
  unfolding number_from
  picked k b e t = ap (λ (x : Bool). cond x (found k) None) (sym t) ∙ ap (λ (j : ℕ). cond (ltb 0 j && leb j most) (found j) None) e

  run : s.digits ≡ digit_run 10 (most + 1) text p
  run = ap (λ (x : Scan). x.digits) scanned

  pub number_none : s.digits ≡ 0 → None ≡ number_from most text p
  number_none z = picked s.digits false run (ap (λ (k : ℕ). ltb 0 k && leb k most) z)

  pub number_long : most < s.digits → None ≡ number_from most text p
  number_long h = let f : 0 < s.digits = omega arith in picked s.digits false run (rw (lt-ltb _ _ f, lt-leb _ _ h))

  pub number_is : (s.digits ≡ 0 → ⊥) → s.digits ≤ most → Some (record { value = s.value; end = p + s.digits }) ≡ number_from most text p
  number_is z h =
      let f : 0 < s.digits = omega arith in
      ap {B = Option Number} (λ (v : ℕ). Some (record { value = v; end = p + s.digits })) (ap (λ (x : Scan). x.value) scanned ∙ ap (number_at 10 text p) (sym run))
      ∙ picked s.digits true run (rw (lt-ltb _ _ f, le-leb _ _ h))

-- where a number ends
abbrev pub end_of : Option Number → ℕ
end_of (Some n) = n.end
end_of None = 0

within : (most p end k v : ℕ) (t : Bool) → (t ≡ true → k ≤ most) → end_of (cond t (Some (record { value = v; end = p + k })) None) ≡ end → end ≤ p + most
within most p end k v true h e = let g : k ≤ most = h refl in omega arith
within most p end k v false h e = omega arith

pub number_end : (most : ℕ) (text : List ℕ) (p : ℕ) (n : Number) → number_from most text p ≡ Some n → n.end ≤ p + most
unfolding number_from
number_end most text p n e =
    let k = digit_run 10 (most + 1) text p in
    within most p n.end k (number_at 10 text p k) (ltb 0 k && leb k most) (λ t. leb-true k most (both_true (ltb 0 k) (leb k most) t).1) (ap end_of e)
