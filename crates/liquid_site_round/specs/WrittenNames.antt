-- The list of the files that a site wrote: a name on each line.
--     list_text names      the text of the list of these names
--     names_listed text      the names that a list has; or its first line that is no name of a file
--       below a folder
use Rattle.std.specs.Prelude.{◌==◌, cond, List, [], ◌∷◌, ◌++◌, length, map, Result, Ok, Err}
use Rattle.std.specs.List.{slice_split}
use Rattle.liquid_model.specs.Texts.{Text}
use Rattle.liquid_site_build.specs.Written.{is_written_name}
use Rattle.liquid_site_round.specs.declared.list.WrittenNames.{WrittenNames}
use Rattle.liquid_site_round.specs.declared.list.WrittenNames.TheVariants.{Names, Refused}

-- a name with a line feed after it, and so on
abbrev pub list_text : List Text → Text
list_text [] = []
list_text (n ∷ ns) = n ++ 10 ∷ list_text ns

abbrev pub name_first : Text → Result (List Text) Text → Result (List Text) Text
name_first n (Ok ns) = Ok (n ∷ ns)
name_first n (Err line) = Err line

-- an empty line is passed over
abbrev pub names_among : List Text → Result (List Text) Text
names_among [] = Ok []
names_among (l ∷ ls) = cond (length l == 0) (names_among ls)
    (cond (is_written_name l) (name_first l (names_among ls)) (Err l))

abbrev pub names_listed : Text → Result (List Text) Text
names_listed text = names_among (slice_split (λ b. b == 10) text)

abbrev pub written_names_view : WrittenNames → Result (List Text) Text
written_names_view (Names names) = Ok (map (λ n. n.now) names.items)
written_names_view (Refused line) = Err line.now
