-- No second answer meets the promise of a public function of this crate. Assumes nothing.
use mathlib.Core.Path.{refl, sym, ◌∙◌}
use Rattle.real.proofs.Only.{Only}
use Rattle.derivatives.proofs.Series as series
use Rattle.derivatives.proofs.choose
use Rattle.derivatives.proofs.is_small

pub recip_only : Only 0 series.recip.Kinds.ps series.recip.Kinds.r series.recip.Reads.Pre series.recip.Reads.Post
recip_only κs a x y v w h p q = (p ∙ sym q, refl)

pub powf_only : Only 0 series.powf.Kinds.ps series.powf.Kinds.r series.powf.Reads.Pre series.powf.Reads.Post
powf_only κs a x y v w h p q = (p ∙ sym q, refl)

pub sqrt_only : Only 0 series.sqrt.Kinds.ps series.sqrt.Kinds.r series.sqrt.Reads.Pre series.sqrt.Reads.Post
sqrt_only κs a x y v w h p q = (p ∙ sym q, refl)

pub cbrt_only : Only 0 series.cbrt.Kinds.ps series.cbrt.Kinds.r series.cbrt.Reads.Pre series.cbrt.Reads.Post
cbrt_only κs a x y v w h p q = (p ∙ sym q, refl)

pub exp_only : Only 0 series.exp.Kinds.ps series.exp.Kinds.r series.exp.Reads.Pre series.exp.Reads.Post
exp_only κs a x y v w h p q = (p ∙ sym q, refl)

pub exp2_only : Only 0 series.exp2.Kinds.ps series.exp2.Kinds.r series.exp2.Reads.Pre series.exp2.Reads.Post
exp2_only κs a x y v w h p q = (p ∙ sym q, refl)

pub exp_m1_only : Only 0 series.exp_m1.Kinds.ps series.exp_m1.Kinds.r series.exp_m1.Reads.Pre series.exp_m1.Reads.Post
exp_m1_only κs a x y v w h p q = (p ∙ sym q, refl)

pub ln_only : Only 0 series.ln.Kinds.ps series.ln.Kinds.r series.ln.Reads.Pre series.ln.Reads.Post
ln_only κs a x y v w h p q = (p ∙ sym q, refl)

pub log_only : Only 0 series.log.Kinds.ps series.log.Kinds.r series.log.Reads.Pre series.log.Reads.Post
log_only κs a x y v w h p q = (p ∙ sym q, refl)

pub log2_only : Only 0 series.log2.Kinds.ps series.log2.Kinds.r series.log2.Reads.Pre series.log2.Reads.Post
log2_only κs a x y v w h p q = (p ∙ sym q, refl)

pub log10_only : Only 0 series.log10.Kinds.ps series.log10.Kinds.r series.log10.Reads.Pre series.log10.Reads.Post
log10_only κs a x y v w h p q = (p ∙ sym q, refl)

pub ln_1p_only : Only 0 series.ln_1p.Kinds.ps series.ln_1p.Kinds.r series.ln_1p.Reads.Pre series.ln_1p.Reads.Post
ln_1p_only κs a x y v w h p q = (p ∙ sym q, refl)

pub sin_only : Only 0 series.sin.Kinds.ps series.sin.Kinds.r series.sin.Reads.Pre series.sin.Reads.Post
sin_only κs a x y v w h p q = (p ∙ sym q, refl)

pub cos_only : Only 0 series.cos.Kinds.ps series.cos.Kinds.r series.cos.Reads.Pre series.cos.Reads.Post
cos_only κs a x y v w h p q = (p ∙ sym q, refl)

pub asin_only : Only 0 series.asin.Kinds.ps series.asin.Kinds.r series.asin.Reads.Pre series.asin.Reads.Post
asin_only κs a x y v w h p q = (p ∙ sym q, refl)

pub acos_only : Only 0 series.acos.Kinds.ps series.acos.Kinds.r series.acos.Reads.Pre series.acos.Reads.Post
acos_only κs a x y v w h p q = (p ∙ sym q, refl)

pub atan_only : Only 0 series.atan.Kinds.ps series.atan.Kinds.r series.atan.Reads.Pre series.atan.Reads.Post
atan_only κs a x y v w h p q = (p ∙ sym q, refl)

pub sinh_only : Only 0 series.sinh.Kinds.ps series.sinh.Kinds.r series.sinh.Reads.Pre series.sinh.Reads.Post
sinh_only κs a x y v w h p q = (p ∙ sym q, refl)

pub cosh_only : Only 0 series.cosh.Kinds.ps series.cosh.Kinds.r series.cosh.Reads.Pre series.cosh.Reads.Post
cosh_only κs a x y v w h p q = (p ∙ sym q, refl)

pub asinh_only : Only 0 series.asinh.Kinds.ps series.asinh.Kinds.r series.asinh.Reads.Pre series.asinh.Reads.Post
asinh_only κs a x y v w h p q = (p ∙ sym q, refl)

pub acosh_only : Only 0 series.acosh.Kinds.ps series.acosh.Kinds.r series.acosh.Reads.Pre series.acosh.Reads.Post
acosh_only κs a x y v w h p q = (p ∙ sym q, refl)

pub atanh_only : Only 0 series.atanh.Kinds.ps series.atanh.Kinds.r series.atanh.Reads.Pre series.atanh.Reads.Post
atanh_only κs a x y v w h p q = (p ∙ sym q, refl)

pub choose_only : Only 0 choose.Kinds.ps choose.Kinds.r choose.Reads.Pre choose.Reads.Post
choose_only κs a x y v w h p q = (p ∙ sym q, refl)

pub is_small_only : Only 0 is_small.Kinds.ps is_small.Kinds.r is_small.Reads.Pre is_small.Reads.Post
is_small_only κs a x y v w h p q = (p ∙ sym q, refl)
