-- The search for a pivot in flat floats: before row k, the rows left to look at, from the best so far, give the definition's pivot. Assumes nothing.
use Prim.Native.Nat.{ℕ, ◌+◌, ◌*◌, ◌≤◌, ◌<◌}
use mathlib.Core.Path.{◌≡◌, refl, ap, sym, ◌∙◌}
use mathlib.Core.List.{List}
use lib.Ieee.{Float, nan}
use lib.ListN.{length, get_or}
use Rattle.real.specs.Operations as float
use Rattle.algebra.specs.Algebra.{reals}
use Rattle.algebra.specs.Flat.{real_parts}
use Rattle.algebra.specs.Loop.{upto}
use Rattle.algebra.proofs.Inside.{get_or-inside}
use Rattle.algebra.proofs.Loop.{upto_turn, upto_end}
use Rattle.matrices.specs.Lu.{better, pivot_of}
use Rattle.matrices.specs.Matrix.{Square, cell}
use Rattle.matrices.specs.declared.Pivot.{Pivot}
use Rattle.matrices.proofs.Places.{real_cell}

abbrev pub Seeking : (w n : ℕ) (a : List Float) (i : ℕ) (b : Pivot) (k : ℕ) → Type 0
Seeking w n a i b k = upto k n (λ j. better (reals.re (cell reals n (real_parts w a) j i)) j) b ≡ pivot_of reals n (real_parts w a) i

module _ (w n : ℕ) (a : List Float) (i : ℕ) where
  pub seeking : Seeking w n a i (record { magnitude = float.zero; row = i }) i
  unfolding pivot_of
  seeking = refl

  module _ (h : i < n) (q : Square w n a) (k : ℕ) (t : k < n) where
    -- the row looked at has its place in the floats
    pub seek_inside : k * (n * w) + i * w < length a
    seek_inside = (real_cell w n a k i q t h).0

    pub seek_turn : (b b' : Pivot) → Seeking w n a i b k → b' ≡ better (get_or a (k * (n * w) + i * w) nan) k b → Seeking w n a i b' (k + 1)
    seek_turn b b' s e =
        let r = real_cell w n a k i q t h in
        let x = get_or-inside a (k * (n * w) + i * w) nan float.zero seek_inside ∙ sym r.1 in
        upto_turn k n _ b b' t (e ∙ ap (λ (y : Float). better y k b) x) s

  pub seek_end : (k : ℕ) (b : Pivot) → Seeking w n a i b k → n ≤ k → b ≡ pivot_of reals n (real_parts w a) i
  seek_end k b s t = upto_end k n _ b t s
