-- The filter `split`.
use Rattle.std.specs.Prelude.{List, [], ◌∷◌, map, Ok}
use Rattle.liquid_model.specs.Data.{Datum, text, array, text_of}
use Rattle.liquid_model.specs.Texts.{Text}
use Rattle.liquid_model.specs.View.{items_of}
use Rattle.liquid_model.specs.Arguments.{Answer, text_or}
use Rattle.liquid_filters.specs.Pieces.{split_by}

-- a list of texts
abbrev pub texts : List Text → Datum
texts ts = array (items_of (map (λ t. text t) ts))

-- the empty text has no pieces here
abbrev pub divided : Text → Text → List Text
divided p [] = []
divided p (b ∷ s) = split_by p (b ∷ s)

-- a missing argument, which no call can make, counts as the empty text
abbrev pub split_answer : Datum → List Datum → Answer
split_answer d args = Ok (texts (divided (text_or [] args) (text_of d)))
