-- A `HyperDual` in flat floats, as its reader and its writer leave it: the law over any record (Cells). Assumes nothing.
use Rattle.std.specs.Prelude.{ℕ, ◌+◌, ◌*◌, ◌/◌, ◌<◌, ◌≡◌, List, Float, length, get_or, set}
use Rattle.algebra.specs.Algebra.{zero_of}
use Rattle.algebra.proofs.Flat.{decode_length}
use Rattle.algebra.proofs.Cells.{read_held, write_held}
use Rattle.hyperdual.specs.declared.HyperDual.{HyperDual}
use Rattle.hyperdual.specs.Rules.{hyper_dual, hyper_dual_algebra, hyper_dual_layout, hyper_dual_records}
use Rattle.hyperdual.specs.Laws.{hyper_dual_lawful, hyper_dual_laws}

pub hyper_dual_held : (l : List Float) → length (hyper_dual_records l) ≡ length l / 4
hyper_dual_held = decode_length hyper_dual_layout hyper_dual_lawful

pub hyper_dual_read : (l : List Float) (p : ℕ) (e : Float) → p < length (hyper_dual_records l) → hyper_dual (get_or l (p * 4) e) (get_or l (p * 4 + 1) e) (get_or l (p * 4 + 2) e) (get_or l (p * 4 + 3) e) ≡ get_or (hyper_dual_records l) p (zero_of hyper_dual_algebra)
hyper_dual_read = read_held hyper_dual_laws

pub hyper_dual_written : (l : List Float) (p : ℕ) (x : HyperDual) → p < length (hyper_dual_records l) → hyper_dual_records (set (set (set (set l (p * 4) x.re) (p * 4 + 1) x.eps1) (p * 4 + 2) x.eps2) (p * 4 + 3) x.eps1eps2) ≡ set (hyper_dual_records l) p x
hyper_dual_written = write_held hyper_dual_laws
