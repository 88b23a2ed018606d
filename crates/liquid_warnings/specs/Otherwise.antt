-- What is read otherwise than it looks.
--     is_else_with piece      an `else` with something after it
--     has_items text      such a tag opens before this text
use Rattle.std.specs.Prelude.{Bool, false, ◌&&◌, ◌==◌, not, bytes_eq, codes, length}
use Rattle.std.specs.Prelude.{List, ℕ}
use Rattle.std.specs.Option.{option_map_or}
use Rattle.liquid_lexer.specs.Pieces.{Piece, tag}
use Rattle.liquid_lexer.specs.SourceReading.{markup_at}
use Rattle.liquid_lexer.specs.declared.style.Style.TheVariants.{Items}

abbrev pub is_else_with : Piece → Bool
is_else_with (tag name items) = bytes_eq name (codes "else") && not (length items == 0)
is_else_with _ = false

abbrev pub has_items : List ℕ → Bool
has_items bs = option_map_or (λ m. is_else_with m.0.piece) (markup_at (λ w. Items) bs) false
