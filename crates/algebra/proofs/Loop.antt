-- Counted loops: one turn, no turn, what every turn keeps, and what carries one loop to another. Assumes nothing.
use Prim.Native.Nat.{ℕ, zero, suc, ◌+◌, ◌-◌, ◌≤◌, ◌<◌}
use mathlib.Core.Path.{◌≡◌, refl, ap, sym, subst, ◌∙◌}
use native.Mathlib.Omega.{arith}
use Rattle.algebra.specs.Loop.{turns, upto}

module _ {S : Type 0} where
  pub upto_none : (lo hi : ℕ) (f : ℕ → S → S) (s : S) → hi ≤ lo → upto lo hi f s ≡ s
  unfolding upto turns
  upto_none lo hi f s h = let e : hi - lo ≡ 0 = omega arith in ap (λ (d : ℕ). turns f d lo s) e

  pub upto_step : (lo hi : ℕ) (f : ℕ → S → S) (s : S) → lo < hi → upto lo hi f s ≡ upto (lo + 1) hi f (f lo s)
  unfolding upto turns
  upto_step lo hi f s h =
      let e : hi - lo ≡ suc (hi - suc lo) = omega arith in
      ap (λ (d : ℕ). turns f d lo s) e ∙ ap (λ (k : ℕ). turns f (hi - k) k (f lo s)) (let e2 : suc lo ≡ lo + 1 = omega arith in e2)

  -- what each turn keeps, the loop keeps
  pub turns_keep : (P : S → Type 0) (f : ℕ → S → S) (d k : ℕ) → ((j : ℕ) (s : S) → k ≤ j → j < k + d → P s → P (f j s)) → (s : S) → P s → P (turns f d k s)
  unfolding turns
  turns_keep P f zero k step s p = p
  turns_keep P f (suc d) k step s p = turns_keep P f d (suc k) (λ j s' h h' p'. step j s' (omega arith) (omega arith) p') (f k s) (step k s (omega arith) (omega arith) p)

  pub upto_keep : (P : S → Type 0) (f : ℕ → S → S) (lo hi : ℕ) → ((j : ℕ) (s : S) → lo ≤ j → j < hi → P s → P (f j s)) → (s : S) → P s → P (upto lo hi f s)
  unfolding upto
  upto_keep P f lo hi step s p = turns_keep P f (hi - lo) lo (λ j s' h h' p'. step j s' h (omega arith) p') s p

  -- what each turn takes from one number to the next, the loop takes from its first to its last
  turns_reach : (P : ℕ → S → Type 0) (f : ℕ → S → S) (d k : ℕ) → ((j : ℕ) (s : S) → k ≤ j → j < k + d → P j s → P (j + 1) (f j s)) → (s : S) → P k s → P (k + d) (turns f d k s)
  unfolding turns
  turns_reach P f zero k step s p = let e : k ≡ k + 0 = omega arith in subst (λ (j : ℕ). P j s) e p
  turns_reach P f (suc d) k step s p =
      let e : suc k + d ≡ k + suc d = omega arith in
      let one : k + 1 ≡ suc k = omega arith in
      subst (λ (j : ℕ). P j (turns f d (suc k) (f k s))) e
      (turns_reach P f d (suc k) (λ j s' h h' p'. step j s' (omega arith) (omega arith) p') (f k s) (subst (λ (j : ℕ). P j (f k s)) one (step k s (omega arith) (omega arith) p)))

  pub upto_reach : (P : ℕ → S → Type 0) (f : ℕ → S → S) (lo hi : ℕ) → lo ≤ hi → ((j : ℕ) (s : S) → lo ≤ j → j < hi → P j s → P (j + 1) (f j s)) → (s : S) → P lo s → P hi (upto lo hi f s)
  unfolding upto
  upto_reach P f lo hi h step s p =
      let e : lo + (hi - lo) ≡ hi = omega arith in
      subst (λ (j : ℕ). P j (turns f (hi - lo) lo s)) e (turns_reach P f (hi - lo) lo (λ j s' l u p'. step j s' l (omega arith) p') s p)

  -- a loop's invariant is that what is left to run gives the whole: after a turn, and at the end
  pub upto_turn : {t : S} (lo hi : ℕ) (f : ℕ → S → S) (s s' : S) → lo < hi → s' ≡ f lo s → upto lo hi f s ≡ t → upto (lo + 1) hi f s' ≡ t
  upto_turn lo hi f s s' h e i = ap (upto (lo + 1) hi f) e ∙ sym (upto_step lo hi f s h) ∙ i

  pub upto_end : {t : S} (lo hi : ℕ) (f : ℕ → S → S) (s : S) → hi ≤ lo → upto lo hi f s ≡ t → s ≡ t
  upto_end lo hi f s h i = sym (upto_none lo hi f s h) ∙ i

  -- two loops are one where each turn gives the same, as long as P holds, and keeps P
  turns_same : (P : S → Type 0) (f g : ℕ → S → S) (d k : ℕ) → ((j : ℕ) (s : S) → k ≤ j → j < k + d → P s → (f j s ≡ g j s) × P (g j s)) → (s : S) → P s → turns f d k s ≡ turns g d k s
  unfolding turns
  turns_same P f g zero k step s p = refl
  turns_same P f g (suc d) k step s p =
      let t = step k s (omega arith) (omega arith) p in
      ap (turns f d (suc k)) t.0 ∙ turns_same P f g d (suc k) (λ j s' h h' p'. step j s' (omega arith) (omega arith) p') (g k s) t.1

  pub upto_same : (P : S → Type 0) (f g : ℕ → S → S) (lo hi : ℕ) → ((j : ℕ) (s : S) → lo ≤ j → j < hi → P s → (f j s ≡ g j s) × P (g j s)) → (s : S) → P s → upto lo hi f s ≡ upto lo hi g s
  unfolding upto
  upto_same P f g lo hi step s p = turns_same P f g (hi - lo) lo (λ j s' h h' p'. step j s' h (omega arith) p') s p

-- What carries each turn of one loop to the matching turn of another carries the whole
module _ {S S' : Type 0} (h : S → S') (f : ℕ → S → S) (g : ℕ → S' → S') where
  turns_carry : (d k : ℕ) → ((j : ℕ) (s : S) → k ≤ j → j < k + d → h (f j s) ≡ g j (h s)) → (s : S) → h (turns f d k s) ≡ turns g d k (h s)
  unfolding turns
  turns_carry zero k step s = refl
  turns_carry (suc d) k step s =
      turns_carry d (suc k) (λ j s' l u. step j s' (omega arith) (omega arith)) (f k s) ∙ ap (turns g d (suc k)) (step k s (omega arith) (omega arith))

  pub upto_carry : (lo hi : ℕ) → ((j : ℕ) (s : S) → lo ≤ j → j < hi → h (f j s) ≡ g j (h s)) → (s : S) → h (upto lo hi f s) ≡ upto lo hi g (h s)
  unfolding upto
  upto_carry lo hi step s = turns_carry (hi - lo) lo (λ j s' l u. step j s' l (omega arith)) s

  pub upto_map : ((k : ℕ) (s : S) → h (f k s) ≡ g k (h s)) → (lo hi : ℕ) (s : S) → h (upto lo hi f s) ≡ upto lo hi g (h s)
  upto_map step lo hi s = upto_carry lo hi (λ j s' l u. step j s') s

-- Two turns in one: where turn j of f and each later turn of g may change places, all of g may go first
module _ {S : Type 0} (f g : ℕ → S → S) where
  turns_apart : (d k : ℕ) → ((j m : ℕ) (s : S) → k ≤ j → j < m → m < k + d → f j (g m s) ≡ g m (f j s)) → (s : S) → turns (λ j t. f j (g j t)) d k s ≡ turns f d k (turns g d k s)
  unfolding turns
  turns_apart zero k swap s = refl
  turns_apart (suc d) k swap s =
      turns_apart d (suc k) (λ j m t l h u. swap j m t (omega arith) h (omega arith)) (f k (g k s))
      ∙ ap (turns f d (suc k)) (sym (turns_carry (f k) g g d (suc k) (λ m t l u. swap k m t (omega arith) (omega arith) (omega arith)) (g k s)))

  pub upto_apart : (lo hi : ℕ) → ((j m : ℕ) (s : S) → lo ≤ j → j < m → m < hi → f j (g m s) ≡ g m (f j s)) → (s : S) → upto lo hi (λ j t. f j (g j t)) s ≡ upto lo hi f (upto lo hi g s)
  unfolding upto
  upto_apart lo hi swap s = turns_apart (hi - lo) lo (λ j m t l h u. swap j m t l h (omega arith)) s
