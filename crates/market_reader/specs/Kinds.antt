-- The format's word for which entries a text has. Definitions only.
use Rattle.std.specs.Prelude.{Bool, true, false}
use Rattle.market_reader.specs.declared.shape.Symmetry.{Symmetry}
use Rattle.market_reader.specs.declared.shape.Symmetry.TheVariants.{General, Symmetric}

abbrev pub is_symmetric : Symmetry → Bool
is_symmetric General = false
is_symmetric Symmetric = true
