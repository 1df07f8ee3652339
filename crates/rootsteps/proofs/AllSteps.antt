-- The steps from the leading bit to the last, by the laws of crates/real: so many bits more keep what one more keeps. Assumes nothing.
use Prim.Native.Nat.{ℕ, zero, suc, ◌+◌, ◌-◌, ◌*◌, ◌/◌, ◌^◌, ◌≤◌, ◌<◌}
use mathlib.Core.Path.{◌≡◌}
use native.Mathlib.Nat.{le_trans}
use native.Mathlib.Omega.{arith}
use lib.Pow.{pow_mono}
use Rattle.real.specs.declared.root.Found.{Found}
use Rattle.real.specs.Bits.{next_of}
use Rattle.real.proofs.BitByBit.{Kept, start, again, ended}
use Rattle.rootsteps.specs.Request.{most_bits}
use Rattle.rootsteps.specs.Start.{top_of, Scales, start_of, last_of}

-- no root is larger
abbrev pub most : ℕ
most = 2 ^ most_bits

pub most_small : most ≤ 2 ^ 60
most_small = omega arith

-- the leading bit is known
pub kept_start : (a bits : ℕ) → Scales bits a → Kept most (a * top_of bits) (bits - 1) (start_of a bits)
kept_start a bits s =
    let k = start (bits - 1) a s.low s.high in
    let top : 2 ^ suc (bits - 1) ≤ most = pow_mono {i = suc (bits - 1)} {j = most_bits} (let few = s.few in let some = s.some in omega arith) in
    record { root = k.root; doubled = k.doubled; weight = k.weight; left = k.left; few = k.few; room = le_trans k.room (let e : 2 * 2 ^ (bits - 1) ≤ most = omega arith in e) }

-- as many bits more as are to come
kept_last : (n digits : ℕ) (f : Found) → Kept most n digits f → Kept most n 0 (last_of digits f)
unfolding last_of
kept_last n zero f k = k
kept_last n (suc digits) f k = kept_last n digits (next_of f) (again most n digits f k)

-- after the last: the whole root, and what its square leaves
pub last_ended : (a bits : ℕ) → Scales bits a → let f = last_of (bits - 1) (start_of a bits) in (f.twice / 2 * (f.twice / 2) + f.rest ≡ a * top_of bits) × (f.rest ≤ 2 * (f.twice / 2)) × (f.twice / 2 < most)
last_ended a bits s = ended most (a * top_of bits) (last_of (bits - 1) (start_of a bits)) (kept_last (a * top_of bits) (bits - 1) (start_of a bits) (kept_start a bits s))
