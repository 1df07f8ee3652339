-- The series of the spherical Bessel functions, DLMF 10.53.1: j_n(z) is the sum over k of (-1)^k z^(n + 2k) / (2^k k! (2n + 2k + 1)!!), and its
-- beginnings in record operations. Definitions only.
use Rattle.std.specs.Prelude.{ℕ, zero, suc, ◌+◌, ◌*◌, ◌%◌, ◌^◌, Bool, cond, eqb, pos}
use Rattle.algebra.specs.Algebra.{Algebra, one_of}
use Rattle.derivatives.specs.Series.{from_int}

-- n! = n * (n - 1) * .. * 1
abbrev pub factorial : ℕ → ℕ
factorial zero = 1
factorial (suc n) = suc n * factorial n

-- n!! = n * (n - 2) * .. down to 1 or 2
abbrev pub double_factorial : ℕ → ℕ
double_factorial zero = 1
double_factorial (suc zero) = 1
double_factorial (suc (suc n)) = suc (suc n) * double_factorial n

-- z ^ power / denominator, subtracted where it is negative
pub record Term : Type 0 where
  pub negative : Bool
  pub power : ℕ
  pub denominator : ℕ

-- term k of j_n
abbrev pub term_of : ℕ → ℕ → Term
term_of n k = record { negative = eqb (k % 2) 1; power = n + 2 * k; denominator = 2 ^ k * factorial k * double_factorial (2 * n + 2 * k + 1) }

module _ {R : Type 0} (A : Algebra R) where
  -- x to a power, multiplied from the left: one, x, x * x, (x * x) * x, ..
  abbrev pub power_of : R → ℕ → R
  power_of x zero = one_of A
  power_of x (suc zero) = x
  power_of x (suc (suc n)) = A.mul (power_of x (suc n)) x

  -- a term without its sign, at x
  abbrev pub term_at : R → Term → R
  term_at x t = A.div_float (power_of x t.power) (from_int (pos t.denominator))

  -- j_n up to term k, from the left
  abbrev pub beginning_of : ℕ → ℕ → R → R
  beginning_of n zero x = term_at x (term_of n zero)
  beginning_of n (suc k) x =
      let t = term_of n (suc k) in
      cond t.negative (A.sub (beginning_of n k x) (term_at x t)) (A.add (beginning_of n k x) (term_at x t))
