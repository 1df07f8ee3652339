-- The loop keeps: the words below i are good, and their floats stand in the matrix (Reading).
use Rattle.std.proofs.Common.{refl, sym, arith, rules}
use Rattle.std.proofs.lemmas.Result.{err_from_is_err_and}
use Rattle.dualrun_text.proofs.Words.{none_of, body_other_length, body_other_word, body_good, body_floats}
use Rattle.dualrun_text.proofs.read.body.Goals as goal

pub returns-then-rest-matrix : goal.returns-then-rest-matrix
returns-then-rest-matrix c = (sym (body_other_length _ _ _ (λ e. c.if-rest-matrix.true (omega arith))), refl)

pub returns-in_err-word : goal.returns-in_err-word
returns-in_err-word c =
    let p = err_from_is_err_and c.from_residual.result c.from_residual.ensures.1 in
    let n = none_of c.word.result _ _ c.in_err-word.ensures.value in
    rw (p.1, p.2) (sym (body_other_word _ _ _ _ _ c.loop-i.invariant c.word.result (search rules) c.word.ensures n.0), n.1)

pub returns : goal.returns
returns c =
    let reading = c.loop-i.invariant in
    (sym (body_good _ _ _ _ _ reading (omega arith) (search rules)), body_floats _ _ _ _ _ reading (search rules))
