-- The filters that put lists into another row: `reverse` and `concat`.
use Rattle.std.specs.Prelude.{List, [], ◌∷◌, ◌++◌, reverse, Ok, Err}
use Rattle.liquid_model.specs.Data.{Datum, array}
use Rattle.liquid_model.specs.Lists.{list_of}
use Rattle.liquid_model.specs.declared.error.ErrorKind.TheVariants.{InvalidInput, InvalidArgument}
use Rattle.liquid_model.specs.Arguments.{Answer}
use Rattle.liquid_filters.specs.Sequences.{list, of_list}

abbrev pub reverse_answer : Datum → List Datum → Answer
reverse_answer d args = of_list reverse d

abbrev pub after_list : List Datum → Datum → Answer
after_list ds (array es) = Ok (list (ds ++ list_of es))
after_list ds _ = Err InvalidArgument

-- an input that is no list is refused before an argument that is none
abbrev pub concat_by : Datum → Datum → Answer
concat_by (array ds) e = after_list (list_of ds) e
concat_by _ e = Err InvalidInput

abbrev pub concat_answer : Datum → List Datum → Answer
concat_answer d [] = Err InvalidArgument
concat_answer d (e ∷ args) = concat_by d e
