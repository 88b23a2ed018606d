-- The group of a `cycle`, whose index the runs of all tags of that group share.
use Rattle.std.specs.Prelude.{List, [], ◌∷◌, Option, Some, None, codes}
use Rattle.std.specs.List.{join_by}
use Rattle.liquid_model.specs.Texts.{Text}
use Rattle.liquid_model.specs.Data.{text_of}
use Rattle.liquid_core.specs.Expression.{Expression, literal, variable}
use Rattle.liquid_core.specs.Written.{written_form}

-- the text of a name that is given: an identifier's word, or a literal's text
abbrev pub name_text : Expression → Text
name_text (literal d) = text_of d
name_text (variable word steps) = word

-- the values' written forms, joined by `-`
abbrev pub values_group : List Expression → Text
values_group values = join_by written_form (codes "-") values

-- the name's text, or where that is empty the values' group
abbrev pub named_group : Text → List Expression → Text
named_group [] values = values_group values
named_group (c ∷ cs) values = c ∷ cs

abbrev pub group_of : Option Expression → List Expression → Text
group_of None values = values_group values
group_of (Some name) values = named_group (name_text name) values
