-- The five record types, and what each answers by function number. Definitions only.
use Rattle.std.specs.Prelude.{ℕ, ◌%◌, Bool, cond, ◌&&◌, List, eqb, ltb, ℤ, get_or, set, Float}
use Rattle.calls.specs.Called.{lent_record}
use Rattle.floats.specs.Words.{first_floats, words_of}
use Rattle.kinds.specs.Kinds.{over, called_by, summed_by, multiplied_by}
use Rattle.kinds.specs.declared.Kind.{Kind}
use Rattle.replay_methods.specs.Methods.{float_at, same_method}
use Rattle.replay_table.specs.Table.{truth_of, same_answer}

-- how many derivatives a record carries
abbrev pub nderiv_of : Kind → ℕ
nderiv_of kind = over (λ R K. K.nderiv) kind

-- the sum (39) or the product of a run of so many floats, as words
unfoldable pub joined_of : Kind → ℕ → List ℕ → ℕ → List Float → ℕ × List ℕ
joined_of kind function records count left =
    let run = first_floats records count in
    let given = cond (eqb function 0x39) (summed_by kind run left) (multiplied_by kind run left) in
    (given.0, words_of given.1)

-- NDERIV (03), the sum and the product (39, 3a), else the call; from 3b to 43 it gives a truth, which is recorded as 1 or 0
unfoldable pub answer_of : Kind → ℕ → ℤ → List ℕ → List ℕ → ℕ → List Float → List ℕ → ℕ × List ℕ
answer_of kind function exponent records floats count left out =
    let called = called_by kind function exponent records floats out in
    cond (eqb function 0x03) (0, set out 0 (nderiv_of kind))
    (cond (eqb function 0x39) (joined_of kind function records count left)
    (cond (eqb function 0x3a) (joined_of kind function records count left)
    (cond (ltb function 0x3b) called
    (cond (ltb 0x43 function) called (called.0, set called.1 0 (truth_of (get_or called.1 0 0)))))))

-- what the record's own method gives, where the function has one beside its call, is the recorded answer
abbrev pub same_method_of : Kind → ℕ → List ℕ → List ℕ → List ℕ → Bool
same_method_of kind function records floats words = over (λ R K. same_method K.algebra K.layout function (lent_record K records 0) (lent_record K records 1) (float_at floats 0) words) kind

-- the recorded number and words are those of the answer, and of the method; a function's number has two digits
unfoldable pub same_recorded : Kind → ℕ → ℤ → List ℕ → List ℕ → ℕ → List ℕ → ℕ → List Float → List ℕ → Bool
same_recorded kind function exponent records floats wanted words count left out =
    let given = answer_of kind (function % 0x100) exponent records floats count left out in
    same_answer wanted words given.0 given.1 && same_method_of kind function records floats words
