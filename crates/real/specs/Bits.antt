-- One bit more of a whole root, as the code finds it. Definitions only; the promise of the root itself does not name them.
use Rattle.std.specs.Prelude.{ℕ, ◌+◌, ◌-◌, ◌*◌, ◌/◌, Bool, cond, leb}
use Rattle.real.specs.declared.root.Found.{Found}

-- what is tried for the next bit: with it the root's square would grow by trial_of f * f.bit
abbrev pub trial_of : Found → ℕ
trial_of f = f.twice + f.bit

-- whether that is at most what the square leaves, f.rest times 2 * f.bit
abbrev pub fits_next : Found → Bool
fits_next f = leb (trial_of f) (2 * f.rest)

-- the bit joins the root, and what is then left is counted in it
abbrev pub with_bit : Found → Found
with_bit f = record { twice = trial_of f + f.bit; rest = 2 * f.rest - trial_of f; bit = f.bit / 2 }

-- or it does not, and what is left is counted in it all the same
abbrev pub without_bit : Found → Found
without_bit f = record { twice = f.twice; rest = 2 * f.rest; bit = f.bit / 2 }

-- one bit more
unfoldable pub next_of : Found → Found
next_of f = cond (fits_next f) (with_bit f) (without_bit f)
