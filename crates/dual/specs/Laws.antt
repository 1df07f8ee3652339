-- The laws that code over any record asks of `Dual`: parts and record are two views of one thing, the real part first, and real parts come from real
-- parts alone. Assumes nothing.
use Rattle.std.specs.Prelude.{refl}
use lib.Dec.{lit<, lit≤}
use Rattle.algebra.specs.Algebra.{RealParts}
use Rattle.algebra.specs.Flat.{tabulate, Lawful, Agrees}
use Rattle.algebra.proofs.Flat.{tabulate_from}
use Rattle.algebra.proofs.Laws.{Laws}
use Rattle.dual.specs.Rules.{dual, dual_algebra, dual_layout, dual_chain, dual_mul, dual_div, dual_add, dual_sub, dual_neg, dual_mul_float, dual_div_float}

pub dual_lawful : Lawful dual_layout
unfolding tabulate
dual_lawful = record {
  positive = lit< tt;
  size = λ x. refl;
  reads = λ f g h. λ i. dual (h 0 (lit< tt) i) (h 1 (lit< tt) i);
  whole = λ x. refl;
  again = λ f. tabulate_from f 2;
}

pub dual_agrees : Agrees dual_algebra dual_layout
dual_agrees = record { first = λ f. refl; blank = refl }

pub dual_reals : RealParts dual_algebra
unfolding dual_chain dual_mul dual_div dual_add dual_sub dual_neg dual_mul_float dual_div_float
dual_reals = record {
  re = λ x. refl;
  from_re = λ f. refl;
  with_re = λ x f. refl;
  add = λ x y. refl;
  sub = λ x y. refl;
  mul = λ x y. refl;
  div = λ x y. refl;
  neg = λ x. refl;
  mul_float = λ x f. refl;
  div_float = λ x f. refl;
  chain = λ x f0 f1 f2 f3. refl;
}

pub dual_laws : Laws dual_algebra dual_layout
dual_laws = record { lawful = dual_lawful; agrees = dual_agrees; real = dual_reals; narrow = lit≤ tt }
