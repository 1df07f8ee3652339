-- What `all` tells of the records, from what it tells of each. Assumes nothing.
use Prim.Native.Nat.{ℕ}
use mathlib.Core.Path.{◌≡◌, refl, subst, ◌∙◌}
use mathlib.Core.Bool.{Bool, true, false}
use mathlib.Core.List.{List, [], ◌∷◌}
use lib.ListN.{length}
use lib.Ieee.{Float}
use denote.Ref.{Bor}
use denote.Param.Members.{Mut}
use Rattle.std.specs.declared.slice.ChunksExact.{ChunksExact}
use Rattle.std.specs.Prelude.{Option, Some, None, MatchOption}
use Rattle.std.specs.List.{FoldsTo}
use Rattle.std.specs.Fn.{Called}
use Rattle.std.specs.Iterator.{Yields, YieldsThen}
use Rattle.std.specs.Slice.Iter.{chunks_exact_rest, chunks_exact_size, chunks_exact_steps}
use Rattle.market.specs.Text.{is_writable}
use Rattle.market_writer.proofs.Pieces.{Checking, checking_more, checking_stops, checking_ends}

module _ {F : Type 0} {g : Mut F (Bor (List Float) × Unit {0}) Bool} (w : ℕ) (a : List Float) (says : (f : F) (x : Bor (List Float)) (b : Bool) (q : F) → Called g f (x, tt) b q → b ≡ is_writable (length x.now) x.now) where
  abbrev pub Here : ChunksExact Float → Type 0
  Here s = Checking w a (chunks_exact_size s) (chunks_exact_rest s)

  checked : (xs : List (Bor (List Float))) (s t : ChunksExact Float) (f j : F) → Here s → Yields chunks_exact_steps s xs t → FoldsTo (λ p x q. Called g p (x, tt) true q) f xs j → Here t
  checked [] s t f j here y k = subst Here y here
  checked (x ∷ xs) s t f j here y k =
      checked xs y.0 t k.0 j
      (checking_more w a _ _ here x.now (chunks_exact_rest y.0) y.1.1.0 y.1.1.1 true (says f x true k.0 k.1) (chunks_exact_size y.0) y.1.0 refl)
      y.2 k.2

  pub all_records : (r : Bool) (s u : ChunksExact Float) (f : F) → Here s
      → (xs : List (Bor (List Float))) × (o : Option (Bor (List Float))) × (j : F) × YieldsThen chunks_exact_steps s xs o u × FoldsTo (λ p x q. Called g p (x, tt) true q) f xs j × MatchOption o (r ≡ true) (λ x. (r ≡ false) × ((h : F) × Called g j (x, tt) false h))
      → r ≡ is_writable w a
  all_records r s u f here d = ends d.1 d.3.2 d.5
    where
      there : Here d.3.0
      there = checked d.0 s d.3.0 f d.2 here d.3.1 d.4

      ends : (o : Option (Bor (List Float))) → chunks_exact_steps d.3.0 o u → MatchOption o (r ≡ true) (λ x. (r ≡ false) × ((h : F) × Called g d.2 (x, tt) false h)) → r ≡ is_writable w a
      ends None t e = e ∙ checking_ends w a _ _ there t.1.0
      ends (Some x) t e = e.0 ∙ checking_stops w a _ _ there x.now (chunks_exact_rest u) t.1.0 t.1.1 false (says d.2 x false e.1.0 e.1.1) refl
