-- What the code's items and pieces are seen as.
use Rattle.std.specs.Prelude.{ℕ, List, map}
use Rattle.std.specs.Borrow.{Bor}
use Rattle.liquid_model.specs.View.{view}
use Rattle.liquid_core.specs.Expression as tree
use Rattle.liquid_core.specs.ExpressionView.{expression_view}
use Rattle.liquid_core.specs.declared.expression.Expression.{Expression}
use Rattle.liquid_lexer.specs.Values as values
use Rattle.liquid_lexer.specs.Items as items
use Rattle.liquid_lexer.specs.Pieces as pieces
use Rattle.liquid_lexer.specs.SourceReading as reading
use Rattle.liquid_lexer.specs.declared.value.WordKind.{WordKind}
use Rattle.liquid_lexer.specs.declared.value.WordKind.TheVariants as words
use Rattle.liquid_lexer.specs.declared.item.Item.{Item}
use Rattle.liquid_lexer.specs.declared.item.Item.TheVariants as item
use Rattle.liquid_lexer.specs.declared.piece.Piece.{Piece}
use Rattle.liquid_lexer.specs.declared.piece.Piece.TheVariants as piece
use Rattle.liquid_lexer.specs.declared.piece.Markup.{Markup}
use Rattle.liquid_lexer.specs.declared.mark.Mark.{Mark}

abbrev pub word_kind_view : WordKind → values.WordKind
word_kind_view words.Name = values.name
word_kind_view (words.Constant v) = values.constant (view v)
word_kind_view words.State = values.state

abbrev pub read_view : Expression × Bor (List ℕ) → tree.Expression × List ℕ
read_view x = (expression_view x.0, x.1.now)

abbrev pub item_view : Item → items.Item
item_view (item.Value x s) = items.value (expression_view x) s.now
item_view (item.Range x y) = items.range (expression_view x) (expression_view y)
item_view (item.Symbol s) = items.symbol s

abbrev pub lexed_items_view : List Item → List items.Item
lexed_items_view is = map item_view is

-- none is seen as a text: the code cuts texts off apart from what stands between them
abbrev pub piece_view : Piece → pieces.Piece
piece_view (piece.Output is) = pieces.output (lexed_items_view is.items)
piece_view (piece.Tag w is) = pieces.tag w.now (lexed_items_view is.items)
piece_view (piece.Raw w t) = pieces.raw w.now t.now
piece_view (piece.Comment w) = pieces.comment w.now

abbrev pub markup_view : Markup → reading.Markup
markup_view m = record { before = m.before; piece = piece_view m.piece; after = m.after }

abbrev pub mark_view : Mark → reading.Mark
mark_view m = record { name = m.name.now; before = m.before; after = m.after }
