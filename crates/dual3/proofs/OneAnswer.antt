-- No second answer meets the promise of a public function of this crate; records has those of the functions that every record type has. Assumes nothing.
use mathlib.Core.Path.{refl, sym, ◌∙◌}
use Rattle.real.proofs.Only.{Only}
use Rattle.algebra.proofs.Outcomes.{outcome_one}
use Rattle.dual3.proofs.Dual3 as method
use Rattle.dual3.proofs.Dual3Record as rule
use Rattle.dual3.proofs.Dual3PartialEq as equality
use Rattle.dual3.proofs.Dual3PartialOrd as order

pub new_only : Only 0 method.new.Kinds.ps method.new.Kinds.r method.new.Reads.Pre method.new.Reads.Post
new_only κs a x y v w h p q = (p ∙ sym q, refl)

pub derivative_only : Only 0 method.derivative.Kinds.ps method.derivative.Kinds.r method.derivative.Reads.Pre method.derivative.Reads.Post
derivative_only κs a x y v w h p q = (p ∙ sym q, refl)

pub re_only : Only 0 rule.re.Kinds.ps rule.re.Kinds.r rule.re.Reads.Pre rule.re.Reads.Post
re_only κs a x y v w h p q = (p ∙ sym q, refl)

pub from_re_only : Only 0 rule.from_re.Kinds.ps rule.from_re.Kinds.r rule.from_re.Reads.Pre rule.from_re.Reads.Post
from_re_only κs a x y v w h p q = (p ∙ sym q, refl)

pub with_re_only : Only 0 rule.with_re.Kinds.ps rule.with_re.Kinds.r rule.with_re.Reads.Pre rule.with_re.Reads.Post
with_re_only κs a x y v w h p q = (p ∙ sym q, refl)

pub add_only : Only 0 rule.add.Kinds.ps rule.add.Kinds.r rule.add.Reads.Pre rule.add.Reads.Post
add_only κs a x y v w h p q = (p ∙ sym q, refl)

pub sub_only : Only 0 rule.sub.Kinds.ps rule.sub.Kinds.r rule.sub.Reads.Pre rule.sub.Reads.Post
sub_only κs a x y v w h p q = (p ∙ sym q, refl)

pub mul_only : Only 0 rule.mul.Kinds.ps rule.mul.Kinds.r rule.mul.Reads.Pre rule.mul.Reads.Post
mul_only κs a x y v w h p q = (p ∙ sym q, refl)

pub div_only : Only 0 rule.div.Kinds.ps rule.div.Kinds.r rule.div.Reads.Pre rule.div.Reads.Post
div_only κs a x y v w h p q = (p ∙ sym q, refl)

pub neg_only : Only 0 rule.neg.Kinds.ps rule.neg.Kinds.r rule.neg.Reads.Pre rule.neg.Reads.Post
neg_only κs a x y v w h p q = (p ∙ sym q, refl)

pub mul_float_only : Only 0 rule.mul_float.Kinds.ps rule.mul_float.Kinds.r rule.mul_float.Reads.Pre rule.mul_float.Reads.Post
mul_float_only κs a x y v w h p q = (p ∙ sym q, refl)

pub div_float_only : Only 0 rule.div_float.Kinds.ps rule.div_float.Kinds.r rule.div_float.Reads.Pre rule.div_float.Reads.Post
div_float_only κs a x y v w h p q = (p ∙ sym q, refl)

pub chain_only : Only 0 rule.chain.Kinds.ps rule.chain.Kinds.r rule.chain.Reads.Pre rule.chain.Reads.Post
chain_only κs a x y v w h p q = (p ∙ sym q, refl)

pub with_derivative_only : Only 0 rule.with_derivative.Kinds.ps rule.with_derivative.Kinds.r rule.with_derivative.Reads.Pre rule.with_derivative.Reads.Post
with_derivative_only κs a x y v w h p q = (outcome_one x y (p ∙ sym q), refl)

pub read_only : Only 1 rule.read.Kinds.ps rule.read.Kinds.r rule.read.Reads.Pre rule.read.Reads.Post
read_only κs a x y v w h p q = (p ∙ sym q, refl)

pub eq_only : Only 2 equality.eq.Kinds.ps equality.eq.Kinds.r equality.eq.Reads.Pre equality.eq.Reads.Post
eq_only κs a x y v w h p q = (p ∙ sym q, refl)

pub partial_cmp_only : Only 2 order.partial_cmp.Kinds.ps order.partial_cmp.Kinds.r order.partial_cmp.Reads.Pre order.partial_cmp.Reads.Post
partial_cmp_only κs a x y v w h p q = (p ∙ sym q, refl)
