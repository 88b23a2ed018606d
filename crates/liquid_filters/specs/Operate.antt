-- Filters that join texts, and that replace parts of them. A missing argument counts as the empty
-- text.
use Rattle.std.specs.Prelude.{List, [], ◌∷◌, ◌++◌, length, drop, Ok, if◌then◌else◌}
use Rattle.liquid_model.specs.Data.{Datum, text, text_of}
use Rattle.liquid_model.specs.Texts.{Text}
use Rattle.liquid_model.specs.Arguments.{Answer, text_or}
use Rattle.liquid_model.specs.Joined.{joined}
use Rattle.liquid_model.specs.Text.{begins}
use Rattle.liquid_filters.specs.Pieces.{split_by}

-- `append`: the input's text, then the argument's
abbrev pub append_answer : Datum → List Datum → Answer
append_answer d args = Ok (text (text_of d ++ text_or [] args))

-- `prepend`: the argument's text, then the input's
abbrev pub prepend_answer : Datum → List Datum → Answer
prepend_answer d args = Ok (text (text_or [] args ++ text_of d))

-- s with r in place of each occurrence of p
abbrev pub replaced : Text → Text → Text → Text
replaced p r s = joined r (split_by p s)

-- s with r in place of the first occurrence of p; the empty text occurs at the start
abbrev pub replaced_first : Text → Text → Text → Text
replaced_first p r [] = if begins p [] then r else []
replaced_first p r (b ∷ s) = if begins p (b ∷ s) then r ++ drop (length p) (b ∷ s) else b ∷
    replaced_first p r s

abbrev pub replace_answer : Datum → List Datum → Answer
replace_answer d args =
    Ok (text (replaced (text_or [] args) (text_or [] (drop 1 args)) (text_of d)))

abbrev pub replace_first_answer : Datum → List Datum → Answer
replace_first_answer d args =
    Ok (text (replaced_first (text_or [] args) (text_or [] (drop 1 args)) (text_of d)))

abbrev pub remove_answer : Datum → List Datum → Answer
remove_answer d args = Ok (text (replaced (text_or [] args) [] (text_of d)))

abbrev pub remove_first_answer : Datum → List Datum → Answer
remove_first_answer d args = Ok (text (replaced_first (text_or [] args) [] (text_of d)))
