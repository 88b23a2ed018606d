-- The items of a text with a closer after it, as tokens.
use Rattle.std.proofs.Common.{◌≡◌, List, [], ◌∷◌, length, Bool, Some, refl, ap, ◌∙◌}
use Rattle.std.specs.Option.{option_and_then}
use Rattle.liquid_model.specs.Texts.{Text}
use Rattle.liquid_lexer.specs.ItemReading.{items_at}
use Rattle.liquid_lexer.specs.PieceView.{item_view, lexed_items_view}
use Rattle.liquid_lexer.specs.Tokens.{token_of, tokens_of, tokens_view}
use Rattle.liquid_lexer.specs.declared.item.Delimiter.TheVariants.{Tag}
use Rattle.liquid_lexer.specs.declared.item.Item.{Item}
use Rattle.liquid_parser.specs.ConditionReading.{condition_of}
use Rattle.liquid_filter_sets.specs.ConditionTexts.{closed_condition, condition_unless_more}

tokens_seen : (is : List Item) → tokens_of (lexed_items_view is) ≡ tokens_view is
tokens_seen [] = refl
tokens_seen (i ∷ is) = ap (λ ts. token_of (item_view i) ∷ ts) (tokens_seen is)

-- where nothing follows the closer, the condition is that of the tokens before it
pub closed_is : (s : Text) (is : List Item) (dash : Bool) (rest : Text) → items_at Tag (length s) s ≡ Some (lexed_items_view is, dash, rest) → rest ≡ [] → closed_condition s ≡ condition_of (tokens_view is)
unfolding closed_condition
closed_is s is dash rest read none =
    ap (option_and_then condition_unless_more) (read ∙ ap (λ r. Some (lexed_items_view is, dash, r)) none) ∙ ap condition_of (tokens_seen is)
