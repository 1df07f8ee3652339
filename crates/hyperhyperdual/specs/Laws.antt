-- The laws that code over any record asks of `HyperHyperDual`: parts and record are two views of one thing, the real part first, and real parts come from
-- real parts alone. Assumes nothing.
use Rattle.std.specs.Prelude.{refl}
use lib.Dec.{lit<, lit≤}
use Rattle.algebra.specs.Algebra.{RealParts}
use Rattle.algebra.specs.Flat.{tabulate, Lawful, Agrees}
use Rattle.algebra.proofs.Flat.{tabulate_from}
use Rattle.algebra.proofs.Laws.{Laws}
use Rattle.derivatives.specs.Series.{recip_series}
use Rattle.hyperhyperdual.specs.Rules.{hyper_hyper_dual, hyper_hyper_dual_algebra, hyper_hyper_dual_layout, hyper_hyper_dual_chain, hyper_hyper_dual_mul, hyper_hyper_dual_div, hyper_hyper_dual_add, hyper_hyper_dual_sub, hyper_hyper_dual_neg, hyper_hyper_dual_mul_float, hyper_hyper_dual_div_float}

pub hyper_hyper_dual_lawful : Lawful hyper_hyper_dual_layout
unfolding tabulate
hyper_hyper_dual_lawful = record {
  positive = lit< tt;
  size = λ x. refl;
  reads = λ f g h. λ i. hyper_hyper_dual (h 0 (lit< tt) i) (h 1 (lit< tt) i) (h 2 (lit< tt) i) (h 3 (lit< tt) i) (h 4 (lit< tt) i) (h 5 (lit< tt) i) (h 6 (lit< tt) i) (h 7 (lit< tt) i);
  whole = λ x. refl;
  again = λ f. tabulate_from f 8;
}

pub hyper_hyper_dual_agrees : Agrees hyper_hyper_dual_algebra hyper_hyper_dual_layout
hyper_hyper_dual_agrees = record { first = λ f. refl; blank = refl }

pub hyper_hyper_dual_reals : RealParts hyper_hyper_dual_algebra
unfolding recip_series hyper_hyper_dual_chain hyper_hyper_dual_mul hyper_hyper_dual_div hyper_hyper_dual_add hyper_hyper_dual_sub hyper_hyper_dual_neg hyper_hyper_dual_mul_float hyper_hyper_dual_div_float
hyper_hyper_dual_reals = record {
  re = λ x. refl;
  from_re = λ f. refl;
  with_re = λ x f. refl;
  add = λ x y. refl;
  sub = λ x y. refl;
  mul = λ x y. refl;
  div = λ x y. refl;
  neg = λ x. refl;
  mul_float = λ x f. refl;
  div_float = λ x f. refl;
  chain = λ x f0 f1 f2 f3. refl;
}

pub hyper_hyper_dual_laws : Laws hyper_hyper_dual_algebra hyper_hyper_dual_layout
hyper_hyper_dual_laws = record { lawful = hyper_hyper_dual_lawful; agrees = hyper_hyper_dual_agrees; real = hyper_hyper_dual_reals; narrow = lit≤ tt }
