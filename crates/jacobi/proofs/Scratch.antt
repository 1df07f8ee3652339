-- Scratch and lent floats of the lengths that a run asks, and what is written over them whole. Over any record. Assumes nothing.
use Prim.Native.Nat.{ℕ, ◌*◌, ◌≤◌}
use mathlib.Core.Path.{◌≡◌, ap, ◌∙◌}
use mathlib.Core.List.{List}
use native.Mathlib.Omega.{arith}
use native.Mathlib.Nat.{mul-le-mul, mul-le-mul_right}
use lib.ListN.{length, take, replicate, length-replicate}
use lib.Seq.{length-take-le}
use lib.Ieee.{Float}
use Rattle.refusals.specs.Largest as largest
use Rattle.real.specs.Operations as float
use Rattle.algebra.specs.Algebra.{Algebra, zero_of}
use Rattle.algebra.specs.Flat.{Layout, decode}
use Rattle.algebra.proofs.Flat.{decode_blank}
use Rattle.algebra.proofs.Laws.{Laws}
use Rattle.matrices.specs.Matrix.{Square}
use Rattle.rotations.specs.Vector.{Vector}

-- a square of `Dual` records by its size
pub square_of : (n : ℕ) (l : List Float) → n ≤ largest.n → length l ≡ n * n * 2 → Square 2 n l
square_of n l h e = record { small = h; some = omega arith; narrow = omega arith; full = e }

-- what n asks for fits a scratch made for the bound: a matrix and a row
pub scratch_fits : (bound n : ℕ) → n ≤ bound → (n * n * 2 ≤ bound * bound * 2) × (n * 2 ≤ bound * 2)
scratch_fits bound n h = (mul-le-mul_right 2 (mul-le-mul h h), mul-le-mul_right 2 h)

-- the first k of m zeros are k floats
pub scratch : (k m : ℕ) → k ≤ m → length (take k (replicate m float.zero)) ≡ k
scratch k m h = length-take-le k (replicate m float.zero) (rw length-replicate h)

-- floats that keep their length hold as many records
pub vector_kept : (n : ℕ) (l l' : List Float) → Vector n l → length l' ≡ length l → Vector n l'
vector_kept n l l' v e = record { full = e ∙ v.full }

module _ {R : Type 0} {A : Algebra R} {L : Layout R} (Q : Laws A L) where
  -- floats of k records, cleared, are k records of zero
  pub blank : (k : ℕ) (l l' : List Float) → length l ≡ k * L.width → l' ≡ replicate (length l) float.zero → decode L l' ≡ replicate k (zero_of A)
  blank k l l' h e = ap (decode L) (e ∙ ap (λ (i : ℕ). replicate i float.zero) h) ∙ decode_blank L Q.lawful A Q.agrees k

  -- a copy holds what was copied
  pub copied : (l l' : List Float) (m : List R) → l' ≡ l → decode L l ≡ m → decode L l' ≡ m
  copied l l' m e h = ap (decode L) e ∙ h
