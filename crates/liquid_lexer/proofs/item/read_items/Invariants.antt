use Rattle.std.proofs.Common.{length, ◌≡◌, ◌≤◌, ℕ}
use denote.Shadow.{shadow}
use denote.Text.{Utf8}
use Rattle.liquid_lexer.specs.ItemReading.{items_at}
use Rattle.liquid_lexer.specs.PieceView.{lexed_items_view}
use Rattle.liquid_lexer.proofs.ItemTurns.{with_front}
use Rattle.liquid_lexer.proofs.item.read_items.Given as goal

abbrev pub invariant-items : goal.invariant-items
invariant-items l =
    (n : ℕ) × (length l.rest ≤ n)
    × (items_at l.kind (length l.initial.rest) l.initial.rest ≡ with_front (lexed_items_view l.items.items) (items_at l.kind n l.rest)) × shadow (Utf8 l.rest)

abbrev pub decreases-items : goal.decreases-items
decreases-items l = length l.rest
