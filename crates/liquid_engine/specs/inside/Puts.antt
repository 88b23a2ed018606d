-- What a text's way out has done, by its short answer.
use Rattle.std.specs.Prelude.{◌≡◌, Ok, Err}
use Rattle.liquid_model.specs.Texts.{Text}
use Rattle.liquid_model.specs.declared.error.Error.{Error}
use Rattle.liquid_model.specs.declared.error.ErrorKind.TheVariants.{Memory, Write}
use Rattle.liquid_model.specs.ErrorKinds.{IsKindOrMemory}
use Rattle.liquid_engine.specs.declared.output.Put.{Put}
use Rattle.liquid_engine.specs.declared.output.Put.TheVariants.{All, NoMemory, NotWritten}
use Rattle.liquid_engine.specs.Performs.{WritesText}
use Rattle.liquid_engine.specs.Sinks.{Sink}

-- the text was written, or any fault of the kind may report that it wasn't
abbrev pub Puts : Put → Text → Sink → Sink → Type 0
Puts All t old new = WritesText (Ok tt) t old new
Puts NoMemory t old new = (e : Error) → e.kind ≡ Memory → WritesText (Err e) t old new
Puts NotWritten t old new = (e : Error) → IsKindOrMemory Write e.kind → WritesText (Err e) t old new
