-- The items of a text of given values with a closer after it, as tokens.
use Rattle.std.proofs.Common.{◌≡◌, List, [], ◌∷◌, length, Bool, Some, refl, ap, ◌∙◌}
use Rattle.std.specs.Option.{option_and_then}
use Rattle.liquid_model.specs.Texts.{Text}
use Rattle.liquid_lexer.specs.ItemReading.{items_at}
use Rattle.liquid_lexer.specs.PieceView.{item_view, lexed_items_view}
use Rattle.liquid_lexer.specs.Tokens.{token_of, tokens_of, tokens_view}
use Rattle.liquid_lexer.specs.declared.item.Delimiter.TheVariants.{Tag}
use Rattle.liquid_lexer.specs.declared.item.Item.{Item}
use Rattle.liquid_parser.specs.ValueLists.{values_of}
use Rattle.liquid_parser.specs.declared.value_items.Separators.TheVariants.{Commas}
use Rattle.liquid_c.specs.GivenValues.{closed_values, values_unless_more}

tokens_seen : (is : List Item) → tokens_of (lexed_items_view is) ≡ tokens_view is
tokens_seen [] = refl
tokens_seen (i ∷ is) = ap (λ ts. token_of (item_view i) ∷ ts) (tokens_seen is)

-- where nothing follows the closer, the values are those of the tokens before it
pub closed_are : (s : Text) (is : List Item) (dash : Bool) (rest : Text) → items_at Tag (length s) s ≡ Some (lexed_items_view is, dash, rest) → rest ≡ [] → closed_values s ≡ values_of Commas (tokens_view is)
unfolding closed_values
closed_are s is dash rest read none =
    ap (option_and_then values_unless_more) (read ∙ ap (λ r. Some (lexed_items_view is, dash, r)) none) ∙ ap (values_of Commas) (tokens_seen is)
