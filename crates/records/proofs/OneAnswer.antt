-- No second answer meets the promise of a function that every record type has. Assumes nothing.
use mathlib.Core.Path.{refl, sym, ◌∙◌}
use denote.RattleType.{RattleType}
use denote.Param.Laws as param
use mir.Syntax.{Dict}
use Rattle.std.specs.declared.clone as clone
use Rattle.std.specs.declared.cmp.PartialOrd as ordered
use Rattle.std.specs.declared.cmp.PartialEq as compared
use Rattle.std.proofs.cmp.PartialOrd as order
use Rattle.real.proofs.Only.{Only}
use Rattle.algebra.proofs.Outcomes.{outcome_one}
use Rattle.records.specs.declared.Record as declared
use Rattle.records.specs.declared.ThirdDerivative as declared_third
use Rattle.records.proofs as own
use Rattle.records.proofs.Record as method
use Rattle.records.proofs.ThirdDerivative as third

-- T is the record type, G its members
module _ (T : RattleType) (l : param.Laws T) (c : param.IsCopy T) (G : declared.Ghosts T.Denot) (d : Dict) (C : clone.Clone.Ghosts T.Denot) (e : Dict) where
  pub zero_only : Only 1 (method.zero.Kinds.ps T l c) (method.zero.Kinds.r T l c) (method.zero.Reads.Pre T l c G d C e) (method.zero.Reads.Post T l c G d C e)
  zero_only κs a x y v w h p q = (p ∙ sym q, refl)

  pub is_zero_only : Only 1 (method.is_zero.Kinds.ps T l c) (method.is_zero.Kinds.r T l c) (method.is_zero.Reads.Pre T l c G d C e) (method.is_zero.Reads.Post T l c G d C e)
  is_zero_only κs a x y v w h p q = (p ∙ sym q, refl)

  pub one_only : Only 1 (method.one.Kinds.ps T l c) (method.one.Kinds.r T l c) (method.one.Reads.Pre T l c G d C e) (method.one.Reads.Post T l c G d C e)
  one_only κs a x y v w h p q = (p ∙ sym q, refl)

  pub is_one_only : Only 1 (method.is_one.Kinds.ps T l c) (method.is_one.Kinds.r T l c) (method.is_one.Reads.Pre T l c G d C e) (method.is_one.Reads.Post T l c G d C e)
  is_one_only κs a x y v w h p q = (p ∙ sym q, refl)

  pub add_float_only : Only 1 (method.add_float.Kinds.ps T l c) (method.add_float.Kinds.r T l c) (method.add_float.Reads.Pre T l c G d C e) (method.add_float.Reads.Post T l c G d C e)
  add_float_only κs a x y v w h p q = (p ∙ sym q, refl)

  pub sub_float_only : Only 1 (method.sub_float.Kinds.ps T l c) (method.sub_float.Kinds.r T l c) (method.sub_float.Reads.Pre T l c G d C e) (method.sub_float.Reads.Post T l c G d C e)
  sub_float_only κs a x y v w h p q = (p ∙ sym q, refl)

  pub is_negative_only : Only 1 (method.is_negative.Kinds.ps T l c) (method.is_negative.Kinds.r T l c) (method.is_negative.Reads.Pre T l c G d C e) (method.is_negative.Reads.Post T l c G d C e)
  is_negative_only κs a x y v w h p q = (p ∙ sym q, refl)

  pub is_positive_only : Only 1 (method.is_positive.Kinds.ps T l c) (method.is_positive.Kinds.r T l c) (method.is_positive.Reads.Pre T l c G d C e) (method.is_positive.Reads.Post T l c G d C e)
  is_positive_only κs a x y v w h p q = (p ∙ sym q, refl)

  pub abs_only : Only 1 (method.abs.Kinds.ps T l c) (method.abs.Kinds.r T l c) (method.abs.Reads.Pre T l c G d C e) (method.abs.Reads.Post T l c G d C e)
  abs_only κs a x y v w h p q = (p ∙ sym q, refl)

  pub abs_sub_only : Only 1 (method.abs_sub.Kinds.ps T l c) (method.abs_sub.Kinds.r T l c) (method.abs_sub.Reads.Pre T l c G d C e) (method.abs_sub.Reads.Post T l c G d C e)
  abs_sub_only κs a x y v w h p q = (p ∙ sym q, refl)

  pub signum_only : Only 1 (method.signum.Kinds.ps T l c) (method.signum.Kinds.r T l c) (method.signum.Reads.Pre T l c G d C e) (method.signum.Reads.Post T l c G d C e)
  signum_only κs a x y v w h p q = (p ∙ sym q, refl)

  pub scale_only : Only 1 (method.scale.Kinds.ps T l c) (method.scale.Kinds.r T l c) (method.scale.Reads.Pre T l c G d C e) (method.scale.Reads.Post T l c G d C e)
  scale_only κs a x y v w h p q = (p ∙ sym q, refl)

  pub recip_only : Only 1 (method.recip.Kinds.ps T l c) (method.recip.Kinds.r T l c) (method.recip.Reads.Pre T l c G d C e) (method.recip.Reads.Post T l c G d C e)
  recip_only κs a x y v w h p q = (p ∙ sym q, refl)

  pub inv_only : Only 1 (method.inv.Kinds.ps T l c) (method.inv.Kinds.r T l c) (method.inv.Reads.Pre T l c G d C e) (method.inv.Reads.Post T l c G d C e)
  inv_only κs a x y v w h p q = (p ∙ sym q, refl)

  pub sqrt_only : Only 1 (method.sqrt.Kinds.ps T l c) (method.sqrt.Kinds.r T l c) (method.sqrt.Reads.Pre T l c G d C e) (method.sqrt.Reads.Post T l c G d C e)
  sqrt_only κs a x y v w h p q = (p ∙ sym q, refl)

  pub sin_cos_only : Only 1 (method.sin_cos.Kinds.ps T l c) (method.sin_cos.Kinds.r T l c) (method.sin_cos.Reads.Pre T l c G d C e) (method.sin_cos.Reads.Post T l c G d C e)
  sin_cos_only κs a x y v w h p q = (p ∙ sym q, refl)

  pub atan2_only : Only 1 (method.atan2.Kinds.ps T l c) (method.atan2.Kinds.r T l c) (method.atan2.Reads.Pre T l c G d C e) (method.atan2.Reads.Post T l c G d C e)
  atan2_only κs a x y v w h p q = (p ∙ sym q, refl)

  pub mul_add_only : Only 1 (method.mul_add.Kinds.ps T l c) (method.mul_add.Kinds.r T l c) (method.mul_add.Reads.Pre T l c G d C e) (method.mul_add.Reads.Post T l c G d C e)
  mul_add_only κs a x y v w h p q = (p ∙ sym q, refl)

  pub powd_only : Only 1 (method.powd.Kinds.ps T l c) (method.powd.Kinds.r T l c) (method.powd.Reads.Pre T l c G d C e) (method.powd.Reads.Post T l c G d C e)
  powd_only κs a x y v w h p q = (p ∙ sym q, refl)

  pub apply_only : Only 1 (method.apply.Kinds.ps T l c) (method.apply.Kinds.r T l c) (method.apply.Reads.Pre T l c G d C e) (method.apply.Reads.Post T l c G d C e)
  apply_only κs a x y v w h p q = (outcome_one x y (p ∙ sym q), refl)

  pub sum_only : Only 2 (method.sum.Kinds.ps T l c) (method.sum.Kinds.r T l c) (method.sum.Reads.Pre T l c G d C e) (method.sum.Reads.Post T l c G d C e)
  sum_only κs a x y v w h p q = (outcome_one x y (p ∙ sym q), refl)

  pub product_only : Only 2 (method.product.Kinds.ps T l c) (method.product.Kinds.r T l c) (method.product.Reads.Pre T l c G d C e) (method.product.Reads.Post T l c G d C e)
  product_only κs a x y v w h p q = (outcome_one x y (p ∙ sym q), refl)

  pub nderiv_only : Only 1 (own.nderiv.Kinds.ps T l c) (own.nderiv.Kinds.r T l c) (own.nderiv.Reads.Pre T l c G d C e) (own.nderiv.Reads.Post T l c G d C e)
  nderiv_only κs a x y v w h p q = (p ∙ sym q, refl)

  -- what a request for it runs, and the method too
  pub run_sph_j1_series_only : Only 1 (own.functions.sph_j1_series.Kinds.ps T l c) (own.functions.sph_j1_series.Kinds.r T l c) (own.functions.sph_j1_series.Reads.Pre T l c G d C e) (own.functions.sph_j1_series.Reads.Post T l c G d C e)
  run_sph_j1_series_only κs a x y v w h p q = (p ∙ sym q, refl)

  -- H stands for the members of `ThirdDerivative`, which has none of its own
  module _ (H : declared_third.Ghosts T.Denot) (f : Dict) where
    pub sph_j1_series_only : Only 1 (third.sph_j1_series.Kinds.ps T l c) (third.sph_j1_series.Kinds.r T l c) (third.sph_j1_series.Reads.Pre T l c H f G d C e) (third.sph_j1_series.Reads.Post T l c H f G d C e)
    sph_j1_series_only κs a x y v w h p q = (p ∙ sym q, refl)

pub place_only : Only 0 own.place.Kinds.ps own.place.Kinds.r own.place.Reads.Pre own.place.Reads.Post
place_only κs a x y v w h p q = (p.0 ∙ sym q.0, refl)

-- what std answers of a type's order, as of a record's
module _ (T : RattleType) (l : param.Laws T) (G : ordered.Ghosts T.Denot) (d : Dict) (E : compared.Ghosts T.Denot) (e : Dict) where
  pub lt_only : Only 3 (order.lt.Kinds.ps T l) (order.lt.Kinds.r T l) (order.lt.Reads.Pre T l G d E e) (order.lt.Reads.Post T l G d E e)
  lt_only κs a x y v w h p q = (p ∙ sym q, refl)

  pub le_only : Only 3 (order.le.Kinds.ps T l) (order.le.Kinds.r T l) (order.le.Reads.Pre T l G d E e) (order.le.Reads.Post T l G d E e)
  le_only κs a x y v w h p q = (p ∙ sym q, refl)

  pub gt_only : Only 3 (order.gt.Kinds.ps T l) (order.gt.Kinds.r T l) (order.gt.Reads.Pre T l G d E e) (order.gt.Reads.Post T l G d E e)
  gt_only κs a x y v w h p q = (p ∙ sym q, refl)

  pub ge_only : Only 3 (order.ge.Kinds.ps T l) (order.ge.Kinds.r T l) (order.ge.Reads.Pre T l G d E e) (order.ge.Reads.Post T l G d E e)
  ge_only κs a x y v w h p q = (p ∙ sym q, refl)
