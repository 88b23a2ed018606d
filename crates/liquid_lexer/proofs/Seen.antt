-- Tokens, seen through the items that specs speak of.
use Rattle.std.proofs.Common.{◌≡◌, List, [], ◌∷◌, refl, ap}
use Rattle.liquid_lexer.specs.PieceView.{lexed_items_view, item_view}
use Rattle.liquid_lexer.specs.Tokens.{tokens_of, token_of, tokens_view}
use Rattle.liquid_lexer.specs.declared.item.Item.{Item}

pub seen_tokens : (is : List Item) → tokens_of (lexed_items_view is) ≡ tokens_view is
seen_tokens [] = refl
seen_tokens (i ∷ is) = ap (λ ts. token_of (item_view i) ∷ ts) (seen_tokens is)
