-- What `dualrun` writes for a text: the request of its first line, the entry's answer, the lines printed. Definitions only.
use Rattle.std.specs.Prelude.{ℕ, ◌*◌, cond, Option, Some, None, List, ◌++◌, eqb, replicate, Float}
use Rattle.refusals.specs.Number as refusal
use Rattle.real.specs.Operations.{zero}
use Rattle.algebra.specs.Outcome.{Outcome, value, refused}
use Rattle.dual.specs.Rules.{dual_algebra, dual_layout}
use Rattle.matrices.specs.Entries.{LuLeft, lu_left}
use Rattle.jacobi.specs.Entry.{JacobiLeft, jacobi_left}
use Rattle.dualrun_text.specs.declared.Request.{Request}
use Rattle.dualrun_text.specs.declared.Request.TheVariants.{Lu, Eig}
use Rattle.dualrun_text.specs.Request.{request_of, lu_line_refusal, eig_line_refusal}
use Rattle.dualrun_text.specs.Body.{is_body, floats_from}
use Rattle.dualrun_text.specs.Lines.{refusal_line, pair_line, record_lines, order_line}

-- the number of a text that cannot be read, alone on a line
abbrev pub unreadable : List ℕ
unreadable = refusal_line refusal.unreadable

-- lu: 0 and the swap count, the order, the factors; or the number and the column
abbrev pub lu_lines : ℕ → Outcome ℕ → ℕ → List Float → List ℕ → List ℕ
lu_lines n (value swaps) column factors order = pair_line 0 swaps ++ order_line order n ++ record_lines factors (n * n)
lu_lines n (refused number) column factors order = pair_line number column

-- the lines of what a call of `lu` leaves
abbrev pub lu_printed : ℕ → LuLeft → List ℕ
lu_printed n left = lu_lines n left.answer left.column left.factors left.order

-- eig: 0 and the sweep count, the eigenvalues, the vectors; or the number and 0
abbrev pub eig_lines : ℕ → Outcome ℕ → List Float → List Float → List ℕ
eig_lines n (value sweeps) values vectors = pair_line 0 sweeps ++ record_lines values n ++ record_lines vectors (n * n)
eig_lines n (refused number) values vectors = pair_line number 0

-- the lines of what a call of `jacobi_eigenvalue` leaves
abbrev pub eig_printed : ℕ → JacobiLeft → List ℕ
eig_printed n left = eig_lines n left.answer left.values left.vectors

-- the matrix read from its lines and handed to `lu` with these buffers, and the answer printed; unreadable where the lines are not as they should be
unfoldable pub lu_of_lines : List ℕ → ℕ → ℕ → List Float → List ℕ → List ℕ
lu_of_lines text n start factors order =
    cond (is_body text start (n * n * 2)) (lu_printed n (lu_left dual_algebra dual_layout n (floats_from text start (n * n * 2)) factors order)) unreadable

-- the same with `jacobi_eigenvalue`
unfoldable pub eig_of_lines : List ℕ → ℕ → ℕ → ℕ → List Float → List Float → List ℕ
eig_of_lines text n limit start values vectors =
    cond (is_body text start (n * n * 2)) (eig_printed n (jacobi_left dual_algebra dual_layout n (floats_from text start (n * n * 2)) limit values vectors)) unreadable

-- the lines, unless the first line is refused: then its number and 0
abbrev pub unless_refused : ℕ → List ℕ → List ℕ
unless_refused number lines = cond (eqb number 0) lines (pair_line number 0)

-- `lu N`: in buffers of zeros, unless its line is refused
abbrev pub lu_in_room : List ℕ → ℕ → ℕ → List ℕ
lu_in_room text n start = lu_of_lines text n start (replicate (n * n * 2) zero) (replicate n 0)

unfoldable pub lu_output : List ℕ → ℕ → ℕ → List ℕ
lu_output text n start = unless_refused (lu_line_refusal n) (lu_in_room text n start)

-- `eig N S`, the same
abbrev pub eig_in_room : List ℕ → ℕ → ℕ → ℕ → List ℕ
eig_in_room text n limit start = eig_of_lines text n limit start (replicate (n * 2) zero) (replicate (n * n * 2) zero)

unfoldable pub eig_output : List ℕ → ℕ → ℕ → ℕ → List ℕ
eig_output text n limit start = unless_refused (eig_line_refusal n limit) (eig_in_room text n limit start)

-- what a request gives
abbrev pub output_for : List ℕ → Option Request → List ℕ
output_for text (Some (Lu n start)) = lu_output text n start
output_for text (Some (Eig n limit start)) = eig_output text n limit start
output_for text None = unreadable

-- what a text gives
unfoldable pub output_of : List ℕ → List ℕ
output_of text = output_for text (request_of text)
