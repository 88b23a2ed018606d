-- The condition that a text is, as it stands between `{% if` and `%}`.
use Rattle.std.specs.Prelude.{Bool, List, [], ◌∷◌, ◌++◌, codes, length, Option, None}
use Rattle.std.specs.Option.{option_and_then}
use Rattle.liquid_model.specs.Texts.{Text}
use Rattle.liquid_evaluation.specs.Tree.{Condition}
use Rattle.liquid_lexer.specs.ItemReading.{items_at}
use Rattle.liquid_lexer.specs.Items.{Item}
use Rattle.liquid_lexer.specs.Tokens.{tokens_of}
use Rattle.liquid_lexer.specs.declared.item.Delimiter.TheVariants.{Tag}
use Rattle.liquid_parser.specs.ConditionReading.{condition_of}

-- the condition that items before a closer are, where nothing follows it
abbrev pub condition_unless_more : List Item × Bool × Text → Option Condition
condition_unless_more (items, dash, []) = condition_of (tokens_of items)
condition_unless_more (items, dash, b ∷ more) = None

-- the condition before the first closer of a text, where the text ends there
unfoldable pub closed_condition : Text → Option Condition
closed_condition s = option_and_then condition_unless_more (items_at Tag (length s) s)

-- the condition that a text is, all of it
unfoldable pub condition_in : Text → Option Condition
condition_in s = closed_condition (s ++ codes " %}")
