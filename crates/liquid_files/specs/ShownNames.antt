-- The name of a file as a list of files shows it.
--     shown_name name      each of its characters as a message shows it, but a backslash doubled
use Rattle.std.specs.Prelude.{ℕ, cond, ◌==◌, List, [], ◌∷◌, ◌++◌, codes}
use Rattle.std.specs.Str.{chars}
use Rattle.liquid_model.specs.Texts.{Text}
use Rattle.liquid_model.specs.Quotes.{character_shown}

-- a backslash in a name looks like no escape
abbrev pub shown_letter : ℕ → Text
shown_letter c = cond (c == 92) (codes "\\\\") (character_shown c)

abbrev pub shown_letters : List ℕ → Text
shown_letters [] = []
shown_letters (c ∷ cs) = shown_letter c ++ shown_letters cs

abbrev pub shown_name : Text → Text
shown_name name = shown_letters (chars name)
