-- What the whole root leaves decides: more than the root itself and the next is nearer, else the root stays. Assumes nothing.
use Prim.Native.Nat.{◌*◌, ◌^◌, ◌<◌}
use native.Mathlib.Omega.{arith}
use Rattle.real.proofs.Rounded.{moves, stays, no_carry}
use Rattle.real.proofs.root.rounded_root.Goals as goal

-- the rest is more than q: q + 1 is nearer, and does not carry
pub returns-then-w : goal.returns-then-w
returns-then-w c =
    let a = c.args.a in
    let q = c.whole_root-w.result.root in
    let rest = c.whole_root-w.result.rest in
    let w = c.whole_root-w.ensures in
    let up : q < rest = omega arith in
    let m = moves (a * 2 ^ 52) q rest w.0 w.1 up in
    let short = no_carry a q rest w.0 up w.2 c.requires.1 in
    (omega arith, omega arith, omega arith)

-- the rest is at most q: q stays
pub returns-else-w : goal.returns-else-w
returns-else-w c =
    let a = c.args.a in
    let q = c.whole_root-w.result.root in
    let rest = c.whole_root-w.result.rest in
    let w = c.whole_root-w.ensures in
    let m = stays (a * 2 ^ 52) q rest w.0 (omega arith) (omega arith) in
    (m.0, m.1, w.2)
