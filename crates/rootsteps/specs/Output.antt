-- What `rootsteps` writes for a text. Definitions only.
use Rattle.std.specs.Prelude.{ℕ, Option, Some, None, List}
use Rattle.rootsteps.specs.declared.Steps.{Steps}
use Rattle.rootsteps.specs.Words.{refusal}
use Rattle.rootsteps.specs.Request.{request_of}
use Rattle.rootsteps.specs.Table.{table_of}

-- what a request gives
abbrev pub output_for : Option Steps → List ℕ
output_for (Some asked) = table_of asked.number asked.bits
output_for None = refusal

-- what a text gives
unfoldable pub output_of : List ℕ → List ℕ
output_of text = output_for (request_of text)
