-- A `Dual2` in flat floats, as its reader and its writer leave it: the law over any record (Cells). Assumes nothing.
use Rattle.std.specs.Prelude.{ℕ, ◌+◌, ◌*◌, ◌/◌, ◌<◌, ◌≡◌, List, Float, length, get_or, set}
use Rattle.algebra.specs.Algebra.{zero_of}
use Rattle.algebra.proofs.Flat.{decode_length}
use Rattle.algebra.proofs.Cells.{read_held, write_held}
use Rattle.dual2.specs.declared.Dual2.{Dual2}
use Rattle.dual2.specs.Rules.{dual2, dual2_algebra, dual2_layout, dual2_records}
use Rattle.dual2.specs.Laws.{dual2_lawful, dual2_laws}

pub dual2_held : (l : List Float) → length (dual2_records l) ≡ length l / 3
dual2_held = decode_length dual2_layout dual2_lawful

pub dual2_read : (l : List Float) (p : ℕ) (e : Float) → p < length (dual2_records l) → dual2 (get_or l (p * 3) e) (get_or l (p * 3 + 1) e) (get_or l (p * 3 + 2) e) ≡ get_or (dual2_records l) p (zero_of dual2_algebra)
dual2_read = read_held dual2_laws

pub dual2_written : (l : List Float) (p : ℕ) (x : Dual2) → p < length (dual2_records l) → dual2_records (set (set (set l (p * 3) x.re) (p * 3 + 1) x.v1) (p * 3 + 2) x.v2) ≡ set (dual2_records l) p x
dual2_written = write_held dual2_laws
