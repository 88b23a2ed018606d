-- The values that are given with a tag or a block of the caller's, as a text:
-- `page.title, site.url`.
use Rattle.std.specs.Prelude.{Bool, List, [], ◌∷◌, ◌++◌, codes, length, Option, Some, None}
use Rattle.std.specs.Option.{option_and_then}
use Rattle.liquid_model.specs.Texts.{Text}
use Rattle.liquid_core.specs.Expression.{Expression}
use Rattle.liquid_lexer.specs.ItemReading.{items_at}
use Rattle.liquid_lexer.specs.Items.{Item}
use Rattle.liquid_lexer.specs.Tokens.{tokens_of}
use Rattle.liquid_lexer.specs.declared.item.Delimiter.TheVariants.{Tag}
use Rattle.liquid_parser.specs.ValueLists.{values_of}
use Rattle.liquid_parser.specs.declared.value_items.Separators.TheVariants.{Commas}

-- the values, with commas between them, that items before a closer are, where nothing follows it
abbrev pub values_unless_more : List Item × Bool × Text → Option (List Expression)
values_unless_more (items, dash, []) = values_of Commas (tokens_of items)
values_unless_more (items, dash, b ∷ more) = None

-- the values before the first closer of a text, where the text ends there
unfoldable pub closed_values : Text → Option (List Expression)
closed_values s = option_and_then values_unless_more (items_at Tag (length s) s)

-- the values that a text is, all of it, as they stand in a tag; an empty one has none
unfoldable pub given_values : Text → Option (List Expression)
given_values [] = Some []
given_values (b ∷ s) = closed_values ((b ∷ s) ++ codes " %}")
