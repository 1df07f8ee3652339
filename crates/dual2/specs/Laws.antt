-- The laws that code over any record asks of `Dual2`: parts and record are two views of one thing, the real part first, and real parts come from
-- real parts alone. Assumes nothing.
use Rattle.std.specs.Prelude.{refl}
use lib.Dec.{lit<, lit≤}
use Rattle.algebra.specs.Algebra.{RealParts}
use Rattle.algebra.specs.Flat.{tabulate, Lawful, Agrees}
use Rattle.algebra.proofs.Flat.{tabulate_from}
use Rattle.algebra.proofs.Laws.{Laws}
use Rattle.dual2.specs.Rules.{dual2, dual2_algebra, dual2_layout, dual2_chain, dual2_mul, dual2_div, dual2_add, dual2_sub, dual2_neg, dual2_mul_float, dual2_div_float}

pub dual2_lawful : Lawful dual2_layout
unfolding tabulate
dual2_lawful = record {
  positive = lit< tt;
  size = λ x. refl;
  reads = λ f g h. λ i. dual2 (h 0 (lit< tt) i) (h 1 (lit< tt) i) (h 2 (lit< tt) i);
  whole = λ x. refl;
  again = λ f. tabulate_from f 3;
}

pub dual2_agrees : Agrees dual2_algebra dual2_layout
dual2_agrees = record { first = λ f. refl; blank = refl }

pub dual2_reals : RealParts dual2_algebra
unfolding dual2_chain dual2_mul dual2_div dual2_add dual2_sub dual2_neg dual2_mul_float dual2_div_float
dual2_reals = record {
  re = λ x. refl;
  from_re = λ f. refl;
  with_re = λ x f. refl;
  add = λ x y. refl;
  sub = λ x y. refl;
  mul = λ x y. refl;
  div = λ x y. refl;
  neg = λ x. refl;
  mul_float = λ x f. refl;
  div_float = λ x f. refl;
  chain = λ x f0 f1 f2 f3. refl;
}

pub dual2_laws : Laws dual2_algebra dual2_layout
dual2_laws = record { lawful = dual2_lawful; agrees = dual2_agrees; real = dual2_reals; narrow = lit≤ tt }
