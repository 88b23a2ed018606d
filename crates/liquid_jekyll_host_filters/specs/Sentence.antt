-- The filter `array_to_sentence_string`.
use Rattle.std.specs.Prelude.{List, ◌++◌, Option, Some, None, Ok, codes}
use Rattle.liquid_model.specs.Data.{Datum, text, array, no_items, item, text_of}
use Rattle.liquid_model.specs.Texts.{Text}
use Rattle.liquid_model.specs.Arguments.{Answer, text_or}
use Rattle.liquid_filters.specs.Sentence.{array_to_sentence_string_answer}

-- the items of a list of two
abbrev pub two_items : Datum → Option (Datum × Datum)
two_items (array (item d (item e no_items))) = Some (d, e)
two_items _ = None

-- two texts with the connector between them
abbrev pub two_texts_joined : Text → Text → Text → Text
two_texts_joined connector t u = t ++ (codes " " ++ (connector ++ (codes " " ++ u)))

abbrev pub sentence_of : Option (Datum × Datum) → Datum → List Datum → Answer
sentence_of (Some p) d args =
    Ok (text (two_texts_joined (text_or (codes "and") args) (text_of p.0) (text_of p.1)))
sentence_of None d args = array_to_sentence_string_answer d args

-- two items have no comma; all else is as in the language
abbrev pub jekyll_sentence_answer : Datum → List Datum → Answer
jekyll_sentence_answer d args = sentence_of (two_items d) d args
