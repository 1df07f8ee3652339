-- The call of the number, of the three records that were read, leaves what it does (Entries).
use Rattle.std.proofs.Common.{rules, arith, ◌≡◌, ◌*◌, None, Err, Float, length}
use Rattle.std.proofs.lemmas.List.{length-take-le}
use Rattle.refusals.specs.declared.Refusal.TheVariants.{WrongLength}
use Rattle.algebra.proofs.Cells.{held}
use Rattle.calls.specs.Called.{kind_of}
use Rattle.calls.proofs.Fitting.{call_sized}
use Rattle.calls.proofs.Entries.{called, not_called}
use Rattle.calls.proofs.run.call.Goals as goal

pub returns-in_err-call : goal.returns-in_err-call
returns-in_err-call g c =
    let R = g.R.Record in
    let none : c.call_of.result ≡ None = rw c.in_err-call.was at c.ok_or.ensures.ok_part in
    let number : c.from_residual.result ≡ Err WrongLength = search rules in
    rw number (search (rules, not_called (kind_of R.algebra R.layout R.NDERIV R.derivatives)))

pub read-x-requires : goal.read-x-requires
read-x-requires g c = let narrow = g.met.R.Record.laws.narrow in let width = c.width-2.ensures in let kept = c.read.auto.floats in held g.met.R.Record.laws c.read.new.floats 0 (omega (arith, length-take-le {A = Float} (3 * c.width-2.result)))

pub read-y-requires : goal.read-y-requires
read-y-requires g c = let narrow = g.met.R.Record.laws.narrow in let width = c.width-2.ensures in let kept = c.read.auto.floats in held g.met.R.Record.laws c.read.new.floats 1 (omega (arith, length-take-le {A = Float} (3 * c.width-2.result)))

pub read-z-requires : goal.read-z-requires
read-z-requires g c = let narrow = g.met.R.Record.laws.narrow in let width = c.width-2.ensures in let kept = c.read.auto.floats in held g.met.R.Record.laws c.read.new.floats 2 (omega (arith, length-take-le {A = Float} (3 * c.width-2.result)))

pub run-requires : goal.run-requires
run-requires g c = let some = rw c.in_ok-call.was at c.ok_or.ensures.ok_part in search (rules, call_sized)

pub returns : goal.returns
returns g c =
    let some = rw c.in_ok-call.was at c.ok_or.ensures.ok_part in
    let R = g.R.Record in
    let Q = g.met.R.Record.laws in
    let narrow = Q.narrow in
    let width = c.width-2.ensures in
    let kept = c.read.auto.floats in
    let long : length c.read.new.floats ≡ 3 * R.layout.width = omega (arith, length-take-le {A = Float} (3 * c.width-2.result)) in
    search (rules, called (kind_of R.algebra R.layout R.NDERIV R.derivatives) Q)
