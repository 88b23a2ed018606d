-- What reading the tags that run a partial answers.
use Rattle.std.specs.Prelude.{List, [], ◌∷◌, Option, Some, None}
use Rattle.std.specs.Option.{option_map}
use Rattle.liquid_model.specs.Texts.{Text}
use Rattle.liquid_lexer.specs.Items as items
use Rattle.liquid_syntax.specs.Flats.{bindings_view, each_view}
use Rattle.liquid_parser.specs.PartialItems as partials
use Rattle.liquid_parser.specs.declared.partial_items.Rendered.{Rendered}

-- how an item is spelled, if it is a value
abbrev pub value_spelling : items.Item → Option Text
value_spelling (items.value x spelling) = Some spelling
value_spelling (items.range x y) = None
value_spelling (items.symbol s) = None

abbrev pub first_spelling : List items.Item → Option Text
first_spelling [] = None
first_spelling (i ∷ is) = value_spelling i

-- what follows the name of a `render`
abbrev pub rendered_view : Rendered → partials.Rendered
rendered_view r = (option_map each_view r.each, bindings_view r.pairs.items)
