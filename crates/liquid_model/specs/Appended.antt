-- What stands in a text to which another was appended, also where memory ran out.
use Rattle.std.specs.Prelude.{◌≡◌, ◌++◌, Result, Ok, Err}
use Rattle.liquid_model.specs.Texts.{Text}
use Rattle.liquid_model.specs.declared.error.Error.{Error}
use Rattle.liquid_model.specs.declared.error.ErrorKind.TheVariants.{Memory}

-- a beginning of the text follows what was there, which is as it was
pub record Begun (old new text : Text) : Type 0 where
  pub front : Text
  pub rest : Text
  pub whole : front ++ rest ≡ text
  pub stands : new ≡ old ++ front

-- the text was appended, or memory ran out, and a beginning of it follows what was there
abbrev pub Appended : {X : Type 0} → Result X Error → Text → Text → Text → Type 0
Appended (Ok x) old new text = new ≡ old ++ text
Appended (Err e) old new text = (e.kind ≡ Memory) × Begun old new text
