-- The filter `array_to_sentence_string`.
use Rattle.std.specs.Prelude.{Bool, true, false, ◌==◌, List, [], ◌∷◌, ◌++◌, length, map, codes, Ok}
use Rattle.std.specs.Prelude.{Err}
use Rattle.liquid_model.specs.Data.{Datum, text, array, text_of}
use Rattle.liquid_model.specs.Lists.{list_of}
use Rattle.liquid_model.specs.Texts.{Text}
use Rattle.liquid_model.specs.declared.error.ErrorKind.TheVariants.{InvalidInput}
use Rattle.liquid_model.specs.Arguments.{Answer, text_or}

-- a text that isn't the first; before the last stands the connector as well
abbrev pub next_text : Text → Bool → Text → Text
next_text connector true t = codes ", " ++ (connector ++ (codes " " ++ t))
next_text connector false t = codes ", " ++ t

abbrev pub next_texts : Text → List Text → Text
next_texts connector [] = []
next_texts connector (t ∷ ts) = next_text connector (length ts == 0) t ++ next_texts connector ts

abbrev pub sentence : Text → List Text → Text
sentence connector [] = []
sentence connector (t ∷ ts) = t ++ next_texts connector ts

abbrev pub sentence_by : Text → Datum → Answer
sentence_by connector (array ds) = Ok (text (sentence connector (map text_of (list_of ds))))
sentence_by connector _ = Err InvalidInput

-- by `and` where no connector is given
abbrev pub array_to_sentence_string_answer : Datum → List Datum → Answer
array_to_sentence_string_answer d args = sentence_by (text_or (codes "and") args) d
