-- The loop keeps the root so far, what its square leaves, and the digits still to come. Assumes nothing.
use Prim.Native.Nat.{ℕ, ◌+◌, ◌*◌, ◌/◌, ◌^◌, ◌≤◌, ◌<◌}
use native.Mathlib.Omega.{arith}
use mathlib.Core.Path.{◌≡◌, sym, subst}
use Rattle.real.specs.declared.root.Found.{Found}
use Rattle.real.specs.Bits.{next_of}
use Rattle.real.proofs.BitByBit.{Kept, start, within, next_less, again, some_come, none_come, ended}
use Rattle.real.proofs.root.whole_root.Goals as goal
use Rattle.real.proofs.root.whole_root.Invariants.{Finding}

-- one bit more
finds : (n : ℕ) (f next : Found) → Finding n f → 0 < f.bit → next ≡ next_of f → Finding n next
finds n f next k some e =
    let come = some_come (2 ^ 53) n k.digits f k.kept some in
    record { digits = come.0; kept = subst (Kept (2 ^ 53) n come.0) (sym e) (again (2 ^ 53) n come.0 f (subst (λ (d : ℕ). Kept (2 ^ 53) n d f) come.1 k.kept)) }

-- no digit is left
found : (n : ℕ) (f : Found) → Finding n f → f.bit ≤ 0 → (f.twice / 2 * (f.twice / 2) + f.rest ≡ n) × (f.rest ≤ 2 * (f.twice / 2)) × (f.twice / 2 < 2 ^ 53)
found n f k none = ended (2 ^ 53) n f (subst (λ (d : ℕ). Kept (2 ^ 53) n d f) (none_come (2 ^ 53) n k.digits f k.kept none) k.kept)

-- the leading bit is known
pub loop-found-init : goal.loop-found-init
loop-found-init c = record { digits = 52; kept = start 52 c.args.a c.requires.0 c.requires.1 }

-- nothing overflows
pub next_bit-found-requires : goal.next_bit-found-requires
next_bit-found-requires c = within (2 ^ 53) _ _ _ c.loop-found.invariant.kept (omega arith)

-- the next bit's weight falls
pub loop-found-smaller : goal.loop-found-smaller
loop-found-smaller c = let some = c.loop-found-test.true in next_less _ _ c.next_bit-found.ensures (omega arith)

-- one bit more
pub loop-found-preserved : goal.loop-found-preserved
loop-found-preserved c = let some = c.loop-found-test.true in finds _ _ _ c.loop-found.invariant (omega arith) c.next_bit-found.ensures

pub returns : goal.returns
returns c = let none = c.loop-found-test.false in found _ _ c.loop-found.invariant (omega arith)
