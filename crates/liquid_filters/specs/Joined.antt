-- The filter `join`.
use Rattle.std.specs.Prelude.{List, map, codes, Ok, Err}
use Rattle.liquid_model.specs.Data.{Datum, text, array, text_of}
use Rattle.liquid_model.specs.Lists.{list_of}
use Rattle.liquid_model.specs.Texts.{Text}
use Rattle.liquid_model.specs.declared.error.ErrorKind.TheVariants.{InvalidInput}
use Rattle.liquid_model.specs.Arguments.{Answer, text_or}
use Rattle.liquid_model.specs.Joined.{joined}

abbrev pub join_by : Text → Datum → Answer
join_by separator (array ds) = Ok (text (joined separator (map text_of (list_of ds))))
join_by separator _ = Err InvalidInput

-- by a space where no separator is given
abbrev pub join_answer : Datum → List Datum → Answer
join_answer d args = join_by (text_or (codes " ") args) d
