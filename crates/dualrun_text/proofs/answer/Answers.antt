-- By what the reader found in the first line; the text after it is what the matrix is read from.
use Rattle.std.proofs.Common.{◌≡◌, ◌-◌, Some, None, List, ℕ, length, take, drop, ap, ◌∙◌, arith, rules}
use lib.ListN.{length-drop}
use lib.Seq.{take_all}
use Rattle.texts.proofs.Page.{puts_as}
use Rattle.dualrun_text.specs.declared.Request.{Request}
use Rattle.dualrun_text.specs.declared.Request.TheVariants.{Lu, Eig}
use Rattle.dualrun_text.specs.Output.{lu_output, eig_output}
use Rattle.dualrun_text.proofs.FirstBytes.{lu_start, eig_start}
use Rattle.dualrun_text.proofs.Moved.{lu_moved, eig_moved}
use Rattle.dualrun_text.proofs.Commands.{answered}
use Rattle.dualrun_text.proofs.answer.Goals as goal

after : (text : List ℕ) (start : ℕ) → take (length text - start) (drop start text) ≡ drop start text
after text start = take_all (length text - start) (drop start text) (omega (arith, length-drop start text))

pub slice_bounds-run-count : goal.slice_bounds-run-count
slice_bounds-run-count c = search (rules, lu_start)

pub slice_bounds-run-start : goal.slice_bounds-run-start
slice_bounds-run-start c = search (rules, lu_start)

pub slice_bounds-run-count-in-Some-Eig : goal.slice_bounds-run-count-in-Some-Eig
slice_bounds-run-count-in-Some-Eig c = search (rules, eig_start)

pub slice_bounds-run-start-in-Some-Eig : goal.slice_bounds-run-start-in-Some-Eig
slice_bounds-run-start-in-Some-Eig c = search (rules, eig_start)

pub returns-in-Some-Lu : goal.returns-in-Some-Lu
returns-in-Some-Lu c =
    let text = c.args.text.now in
    let n = c.in-Some-Lu.n in
    let start = c.in-Some-Lu.start in
    let is : c.request.result ≡ Some (Lu n start) = c.in-Some-Lu.is ∙ ap (λ (r : Request). Some r) c.in-Some-Lu.field-0-is in
    answered _ _ _ _ (Some (Lu n start)) c.request.ensures is
    (puts_as c.run.ensures (ap (λ (t : List ℕ). lu_output t n 0) (after text start) ∙ lu_moved text start (lu_start text c.request.result n start is c.request.ensures) n))

pub returns-in-Some-Eig : goal.returns-in-Some-Eig
returns-in-Some-Eig c =
    let text = c.args.text.now in
    let n = c.in-Some-Eig.n in
    let limit = c.in-Some-Eig.limit in
    let start = c.in-Some-Eig.start in
    let is : c.request.result ≡ Some (Eig n limit start) = c.in-Some-Eig.is ∙ ap (λ (r : Request). Some r) c.in-Some-Eig.field-0-is in
    answered _ _ _ _ (Some (Eig n limit start)) c.request.ensures is
    (puts_as c.run-in-Some-Eig.ensures (ap (λ (t : List ℕ). eig_output t n limit 0) (after text start) ∙ eig_moved text start (eig_start text c.request.result n limit start is c.request.ensures) n limit))

pub returns-in-None : goal.returns-in-None
returns-in-None c = answered _ _ _ _ None c.request.ensures c.in-None.is c.refusal.ensures
