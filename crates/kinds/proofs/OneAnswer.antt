-- No second outcome meets the promise of a public function of this crate, nor of the number of a refusal. Assumes nothing.
use mathlib.Core.Path.{refl, ap, sym, ◌∙◌}
use borrow.Fn.Kinds.{ended_of}
use denote.Triple.Clauses.{at_exit}
use Rattle.real.proofs.Only.{Only}
use Rattle.calls.proofs.OneAnswer.{answer_one}
use Rattle.refusals.proofs.Refusal.number as number
use Rattle.kinds.proofs.Kind as own
use Rattle.kinds.proofs.KindTryFromU32.try_from as try-from

pub number_only : Only 0 number.Kinds.ps number.Kinds.r number.Reads.Pre number.Reads.Post
number_only κs a x y v w h p q = (p ∙ sym q, refl)

pub try_from_only : Only 0 try-from.Kinds.ps try-from.Kinds.r try-from.Reads.Pre try-from.Reads.Post
try_from_only κs a x y v w h p q = (p ∙ sym q, refl)

pub width_only : Only 0 own.width.Kinds.ps own.width.Kinds.r own.width.Reads.Pre own.width.Reads.Post
width_only κs a x y v w h p q = (p.0 ∙ sym q.0, refl)

pub nderiv_only : Only 0 own.nderiv.Kinds.ps own.nderiv.Kinds.r own.nderiv.Reads.Pre own.nderiv.Reads.Post
nderiv_only κs a x y v w h p q = (p ∙ sym q, refl)

pub call_only : Only 3 own.call.Kinds.ps own.call.Kinds.r own.call.Reads.Pre own.call.Reads.Post
call_only κs a x y v w h p q = let e = p ∙ sym q in (answer_one x y (ap (λ t. t.0) e), λ i. at_exit (ended_of 3 own.call.Kinds.ps own.call.Kinds.r) κs a (v.0, (v.1.0, (v.1.1.0, (v.1.1.1.0, (v.1.1.1.1.0, (ap (λ t. t.1) e i, tt)))))))

pub operator_only : Only 2 own.operator.Kinds.ps own.operator.Kinds.r own.operator.Reads.Pre own.operator.Reads.Post
operator_only κs a x y v w h p q = let e = p ∙ sym q in (answer_one x y (ap (λ t. t.0) e), λ i. at_exit (ended_of 2 own.operator.Kinds.ps own.operator.Kinds.r) κs a (v.0, (v.1.0, (v.1.1.0, (ap (λ t. t.1) e i, tt)))))

pub sum_only : Only 2 own.sum.Kinds.ps own.sum.Kinds.r own.sum.Reads.Pre own.sum.Reads.Post
sum_only κs a x y v w h p q = let e = p ∙ sym q in (answer_one x y (ap (λ t. t.0) e), λ i. at_exit (ended_of 2 own.sum.Kinds.ps own.sum.Kinds.r) κs a (v.0, (v.1.0, (ap (λ t. t.1) e i, tt))))

pub product_only : Only 2 own.product.Kinds.ps own.product.Kinds.r own.product.Reads.Pre own.product.Reads.Post
product_only κs a x y v w h p q = let e = p ∙ sym q in (answer_one x y (ap (λ t. t.0) e), λ i. at_exit (ended_of 2 own.product.Kinds.ps own.product.Kinds.r) κs a (v.0, (v.1.0, (ap (λ t. t.1) e i, tt))))
