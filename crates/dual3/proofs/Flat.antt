-- A `Dual3` in flat floats, as its reader and its writer leave it: the law over any record (Cells). Assumes nothing.
use Rattle.std.specs.Prelude.{ℕ, ◌+◌, ◌*◌, ◌/◌, ◌<◌, ◌≡◌, List, Float, length, get_or, set}
use Rattle.algebra.specs.Algebra.{zero_of}
use Rattle.algebra.proofs.Flat.{decode_length}
use Rattle.algebra.proofs.Cells.{read_held, write_held}
use Rattle.dual3.specs.declared.Dual3.{Dual3}
use Rattle.dual3.specs.Rules.{dual3, dual3_algebra, dual3_layout, dual3_records}
use Rattle.dual3.specs.Laws.{dual3_lawful, dual3_laws}

pub dual3_held : (l : List Float) → length (dual3_records l) ≡ length l / 4
dual3_held = decode_length dual3_layout dual3_lawful

pub dual3_read : (l : List Float) (p : ℕ) (e : Float) → p < length (dual3_records l) → dual3 (get_or l (p * 4) e) (get_or l (p * 4 + 1) e) (get_or l (p * 4 + 2) e) (get_or l (p * 4 + 3) e) ≡ get_or (dual3_records l) p (zero_of dual3_algebra)
dual3_read = read_held dual3_laws

pub dual3_written : (l : List Float) (p : ℕ) (x : Dual3) → p < length (dual3_records l) → dual3_records (set (set (set (set l (p * 4) x.re) (p * 4 + 1) x.v1) (p * 4 + 2) x.v2) (p * 4 + 3) x.v3) ≡ set (dual3_records l) p x
dual3_written = write_held dual3_laws
