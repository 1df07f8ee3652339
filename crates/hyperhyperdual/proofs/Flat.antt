-- A `HyperHyperDual` in flat floats, as its reader and its writer leave it: the law over any record (Cells). Assumes nothing.
use Rattle.std.specs.Prelude.{ℕ, ◌+◌, ◌*◌, ◌/◌, ◌<◌, ◌≡◌, List, Float, length, get_or, set}
use Rattle.algebra.specs.Algebra.{zero_of}
use Rattle.algebra.proofs.Flat.{decode_length}
use Rattle.algebra.proofs.Cells.{read_held, write_held}
use Rattle.hyperhyperdual.specs.declared.HyperHyperDual.{HyperHyperDual}
use Rattle.hyperhyperdual.specs.Rules.{hyper_hyper_dual, hyper_hyper_dual_algebra, hyper_hyper_dual_layout, hyper_hyper_dual_records}
use Rattle.hyperhyperdual.specs.Laws.{hyper_hyper_dual_lawful, hyper_hyper_dual_laws}

pub hyper_hyper_dual_held : (l : List Float) → length (hyper_hyper_dual_records l) ≡ length l / 8
hyper_hyper_dual_held = decode_length hyper_hyper_dual_layout hyper_hyper_dual_lawful

pub hyper_hyper_dual_read : (l : List Float) (p : ℕ) (e : Float) → p < length (hyper_hyper_dual_records l) → hyper_hyper_dual (get_or l (p * 8) e) (get_or l (p * 8 + 1) e) (get_or l (p * 8 + 2) e) (get_or l (p * 8 + 3) e) (get_or l (p * 8 + 4) e) (get_or l (p * 8 + 5) e) (get_or l (p * 8 + 6) e) (get_or l (p * 8 + 7) e) ≡ get_or (hyper_hyper_dual_records l) p (zero_of hyper_hyper_dual_algebra)
hyper_hyper_dual_read = read_held hyper_hyper_dual_laws

pub hyper_hyper_dual_written : (l : List Float) (p : ℕ) (x : HyperHyperDual) → p < length (hyper_hyper_dual_records l) → hyper_hyper_dual_records (set (set (set (set (set (set (set (set l (p * 8) x.re) (p * 8 + 1) x.eps1) (p * 8 + 2) x.eps2) (p * 8 + 3) x.eps3) (p * 8 + 4) x.eps1eps2) (p * 8 + 5) x.eps1eps3) (p * 8 + 6) x.eps2eps3) (p * 8 + 7) x.eps1eps2eps3) ≡ set (hyper_hyper_dual_records l) p x
hyper_hyper_dual_written = write_held hyper_hyper_dual_laws
