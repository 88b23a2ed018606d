-- The filters that replace the last occurrence of a text.
use Rattle.std.specs.Prelude.{Bool, ◌||◌, List, [], ◌∷◌, ◌++◌, length, drop, Ok, if◌then◌else◌}
use Rattle.liquid_model.specs.Data.{Datum, text, text_of}
use Rattle.liquid_model.specs.Texts.{Text}
use Rattle.liquid_model.specs.Arguments.{Answer, text_or}
use Rattle.liquid_model.specs.Text.{begins}

-- p occurs in s
abbrev pub occurs : Text → Text → Bool
occurs p [] = begins p []
occurs p (b ∷ s) = begins p (b ∷ s) || occurs p s

-- s with r in place of the last occurrence of p; the empty text occurs at the end
abbrev pub replaced_last : Text → Text → Text → Text
replaced_last p r [] = if begins p [] then r else []
replaced_last p r (b ∷ s) =
    if occurs p s then b ∷ replaced_last p r s
    else (if begins p (b ∷ s) then r ++ drop (length p) (b ∷ s) else b ∷ s)

-- `replace_last`
abbrev pub replace_last_answer : Datum → List Datum → Answer
replace_last_answer d args =
    Ok (text (replaced_last (text_or [] args) (text_or [] (drop 1 args)) (text_of d)))

-- `remove_last`
abbrev pub remove_last_answer : Datum → List Datum → Answer
remove_last_answer d args = Ok (text (replaced_last (text_or [] args) [] (text_of d)))
