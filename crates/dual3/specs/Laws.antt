-- The laws that code over any record asks of `Dual3`: parts and record are two views of one thing, the real part first, and real parts come from
-- real parts alone. Assumes nothing.
use Rattle.std.specs.Prelude.{refl}
use lib.Dec.{lit<, lit≤}
use Rattle.algebra.specs.Algebra.{RealParts}
use Rattle.algebra.specs.Flat.{tabulate, Lawful, Agrees}
use Rattle.algebra.proofs.Flat.{tabulate_from}
use Rattle.algebra.proofs.Laws.{Laws}
use Rattle.derivatives.specs.Series.{recip_series}
use Rattle.dual3.specs.Rules.{dual3, dual3_algebra, dual3_layout, dual3_chain, dual3_mul, dual3_div, dual3_add, dual3_sub, dual3_neg, dual3_mul_float, dual3_div_float}

pub dual3_lawful : Lawful dual3_layout
unfolding tabulate
dual3_lawful = record {
  positive = lit< tt;
  size = λ x. refl;
  reads = λ f g h. λ i. dual3 (h 0 (lit< tt) i) (h 1 (lit< tt) i) (h 2 (lit< tt) i) (h 3 (lit< tt) i);
  whole = λ x. refl;
  again = λ f. tabulate_from f 4;
}

pub dual3_agrees : Agrees dual3_algebra dual3_layout
dual3_agrees = record { first = λ f. refl; blank = refl }

pub dual3_reals : RealParts dual3_algebra
unfolding recip_series dual3_chain dual3_mul dual3_div dual3_add dual3_sub dual3_neg dual3_mul_float dual3_div_float
dual3_reals = record {
  re = λ x. refl;
  from_re = λ f. refl;
  with_re = λ x f. refl;
  add = λ x y. refl;
  sub = λ x y. refl;
  mul = λ x y. refl;
  div = λ x y. refl;
  neg = λ x. refl;
  mul_float = λ x f. refl;
  div_float = λ x f. refl;
  chain = λ x f0 f1 f2 f3. refl;
}

pub dual3_laws : Laws dual3_algebra dual3_layout
dual3_laws = record { lawful = dual3_lawful; agrees = dual3_agrees; real = dual3_reals; narrow = lit≤ tt }
