-- No second outcome meets the promise of a public function of this crate, over any record: one answer, one content of out. Assumes nothing.
use mathlib.Core.Path.{◌≡◌, refl, ap, sym, ◌∙◌}
use borrow.Fn.Kinds.{ended_of}
use mir.Syntax.{Dict}
use native.Mathlib.Omega.{arith}
use denote.Param.Laws as param
use denote.RattleType.{RattleType}
use denote.Triple.Clauses.{at_exit}
use Rattle.std.specs.Prelude.{Result, Ok, Err}
use Rattle.real.proofs.Only.{Only}
use Rattle.refusals.specs.Refused.{answer_number}
use Rattle.refusals.specs.declared.Refusal.{Refusal}
use Rattle.refusals.proofs.Numbers.{number_one, number_positive}
use Rattle.calls.proofs.run as own

-- an answer of nothing is known by its number
pub answer_one : (x y : Result Unit Refusal) → answer_number x ≡ answer_number y → x ≡ y
answer_one (Ok x) (Ok y) e = refl
answer_one (Ok x) (Err m) e = absurd (omega (arith, number_positive m))
answer_one (Err m) (Ok y) e = absurd (omega (arith, number_positive m))
answer_one (Err m) (Err n) e = ap Err (number_one m n e)

module _ (T : RattleType) (l : param.Laws T) (c : param.IsCopy T) (G : Rattle.records.specs.declared.Record.Ghosts T.Denot) (d : Dict) (C : Rattle.std.specs.declared.clone.Clone.Ghosts T.Denot) (k : Dict) where
  pub call_only : Only 4 (own.call.Kinds.ps T l c) (own.call.Kinds.r T l c) (own.call.Reads.Pre T l c G d C k) (own.call.Reads.Post T l c G d C k)
  call_only κs a x y v w h p q = let e = p ∙ sym q in (answer_one x y (ap (λ t. t.0) e), λ i. at_exit (ended_of 4 (own.call.Kinds.ps T l c) (own.call.Kinds.r T l c)) κs a (v.0, (v.1.0, (v.1.1.0, (v.1.1.1.0, (ap (λ t. t.1) e i, tt))))))

  pub operator_only : Only 3 (own.operator.Kinds.ps T l c) (own.operator.Kinds.r T l c) (own.operator.Reads.Pre T l c G d C k) (own.operator.Reads.Post T l c G d C k)
  operator_only κs a x y v w h p q = let e = p ∙ sym q in (answer_one x y (ap (λ t. t.0) e), λ i. at_exit (ended_of 3 (own.operator.Kinds.ps T l c) (own.operator.Kinds.r T l c)) κs a (v.0, (v.1.0, (ap (λ t. t.1) e i, tt))))

  pub sum_only : Only 3 (own.sum.Kinds.ps T l c) (own.sum.Kinds.r T l c) (own.sum.Reads.Pre T l c G d C k) (own.sum.Reads.Post T l c G d C k)
  sum_only κs a x y v w h p q = let e = p ∙ sym q in (answer_one x y (ap (λ t. t.0) e), λ i. at_exit (ended_of 3 (own.sum.Kinds.ps T l c) (own.sum.Kinds.r T l c)) κs a (v.0, (ap (λ t. t.1) e i, tt)))

  pub product_only : Only 3 (own.product.Kinds.ps T l c) (own.product.Kinds.r T l c) (own.product.Reads.Pre T l c G d C k) (own.product.Reads.Post T l c G d C k)
  product_only κs a x y v w h p q = let e = p ∙ sym q in (answer_one x y (ap (λ t. t.0) e), λ i. at_exit (ended_of 3 (own.product.Kinds.ps T l c) (own.product.Kinds.r T l c)) κs a (v.0, (ap (λ t. t.1) e i, tt)))
