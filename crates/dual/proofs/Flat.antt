-- A `Dual` in flat floats, as its reader and its writer leave it: the law over any record (Cells). Assumes nothing.
use Rattle.std.specs.Prelude.{ℕ, ◌+◌, ◌*◌, ◌/◌, ◌<◌, ◌≡◌, List, Float, length, get_or, set}
use Rattle.algebra.specs.Algebra.{zero_of}
use Rattle.algebra.proofs.Flat.{decode_length}
use Rattle.algebra.proofs.Cells.{read_held, write_held}
use Rattle.dual.specs.declared.Dual.{Dual}
use Rattle.dual.specs.Rules.{dual, dual_algebra, dual_layout, dual_records}
use Rattle.dual.specs.Laws.{dual_lawful, dual_laws}

pub dual_held : (l : List Float) → length (dual_records l) ≡ length l / 2
dual_held = decode_length dual_layout dual_lawful

pub dual_read : (l : List Float) (p : ℕ) (e : Float) → p < length (dual_records l) → dual (get_or l (p * 2) e) (get_or l (p * 2 + 1) e) ≡ get_or (dual_records l) p (zero_of dual_algebra)
dual_read = read_held dual_laws

pub dual_written : (l : List Float) (p : ℕ) (x : Dual) → p < length (dual_records l) → dual_records (set (set l (p * 2) x.re) (p * 2 + 1) x.eps) ≡ set (dual_records l) p x
dual_written = write_held dual_laws
