-- No second answer meets the promise of a public function of this crate. Assumes nothing.
use mathlib.Core.Path.{refl, sym, ◌∙◌}
use Rattle.real.proofs.Only.{Only}
use Rattle.real.proofs.sqrt.Kinds as sqrt-k
use Rattle.real.proofs.sqrt.Reads as sqrt
use Rattle.real.proofs.root.next_bit.Kinds as next-bit-k
use Rattle.real.proofs.root.next_bit.Reads as next_bit
use Rattle.real.proofs.is_negative.Kinds as is-negative-k
use Rattle.real.proofs.is_negative.Reads as is_negative
use Rattle.real.proofs.abs.Kinds as abs-k
use Rattle.real.proofs.abs.Reads as abs
use Rattle.real.proofs.float_of_word.Kinds as float-of-word-k
use Rattle.real.proofs.float_of_word.Reads as float_of_word
use Rattle.real.proofs.word_of_float.Kinds as word-of-float-k
use Rattle.real.proofs.word_of_float.Reads as word-of-float

pub sqrt_only : Only 0 sqrt-k.ps sqrt-k.r sqrt.Pre sqrt.Post
sqrt_only κs a x y v w h p q = (p ∙ sym q, refl)

pub next_bit_only : Only 0 next-bit-k.ps next-bit-k.r next_bit.Pre next_bit.Post
next_bit_only κs a x y v w h p q = (p ∙ sym q, refl)

pub is_negative_only : Only 0 is-negative-k.ps is-negative-k.r is_negative.Pre is_negative.Post
is_negative_only κs a x y v w h p q = (p ∙ sym q, refl)

pub abs_only : Only 0 abs-k.ps abs-k.r abs.Pre abs.Post
abs_only κs a x y v w h p q = (p ∙ sym q, refl)

pub float_of_word_only : Only 0 float-of-word-k.ps float-of-word-k.r float_of_word.Pre float_of_word.Post
float_of_word_only κs a x y v w h p q = (p ∙ sym q, refl)

pub word_of_float_only : Only 0 word-of-float-k.ps word-of-float-k.r word-of-float.Pre word-of-float.Post
word_of_float_only κs a x y v w h p q = (p ∙ sym q, refl)
