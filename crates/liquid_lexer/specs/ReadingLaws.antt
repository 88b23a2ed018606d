-- What is read stands in the written grammar, and what stands in the grammar is read. So nothing is
-- to be read in two ways.
use Rattle.std.specs.Prelude.{◌≡◌, ℕ, List, Bool, false, codes, length, Option, Some}
use Rattle.liquid_core.specs.Expression.{Expression}
use Rattle.liquid_lexer.specs.Values.{IsValue}
use Rattle.liquid_lexer.specs.ValueReading.{expression_at}
use Rattle.liquid_lexer.specs.Items.{Item, AreItems}
use Rattle.liquid_lexer.specs.ItemReading.{items_at}
use Rattle.liquid_lexer.specs.Verbatim.{IsRaw, IsComment}
use Rattle.liquid_lexer.specs.Pieces.{Piece, IsSource}
use Rattle.liquid_lexer.specs.Styles.{only_items, styled}
use Rattle.liquid_lexer.specs.declared.style.Style.{Style}
use Rattle.liquid_lexer.specs.declared.style.Style.TheVariants as styles
use Rattle.liquid_lexer.specs.SourceReading.{Mark, raw_at, comment_at, all_steps, source_at}
use Rattle.liquid_lexer.specs.SourceReading.{TakesWanted}
use Rattle.liquid_lexer.specs.declared.item.Delimiter.{Delimiter}
use Rattle.liquid_lexer.specs.declared.piece.Body.{Body}

-- ---- values, with brackets at most so deep

abbrev pub ReadValueStands : Type 0
ReadValueStands = (depth : ℕ) (bs rest : List ℕ) (x : Expression) → expression_at depth bs ≡
    Some (x, rest) → IsValue depth x bs rest

abbrev pub StandingValueIsRead : Type 0
StandingValueIsRead = (depth : ℕ) (bs rest : List ℕ) (x : Expression) → IsValue depth x bs rest →
    expression_at depth bs ≡ Some (x, rest)

-- ---- the items up to a closer

abbrev pub ReadItemsStand : Type 0
ReadItemsStand = (k : Delimiter) (is : List Item) (dash : Bool) (bs rest : List ℕ) →
    items_at k (length bs) bs ≡ Some (is, dash, rest) → AreItems k is dash bs rest

abbrev pub StandingItemsAreRead : Type 0
StandingItemsAreRead = (k : Delimiter) (is : List Item) (dash : Bool) (bs rest : List ℕ) →
    AreItems k is dash bs rest → items_at k (length bs) bs ≡ Some (is, dash, rest)

-- ---- bodies that aren't read

abbrev pub ReadRawStands : Type 0
ReadRawStands = (bs rest t : List ℕ) (m : Mark) → raw_at bs ≡ Some (t, m, rest) →
    IsRaw t m.before m.after bs rest

abbrev pub StandingRawIsRead : Type 0
StandingRawIsRead = (bs rest t : List ℕ) (before after : Bool) → IsRaw t before after bs rest →
    raw_at bs ≡ Some (t, record { name = codes "endraw"; before = before; after = after }, rest)

abbrev pub ReadCommentStands : Type 0
ReadCommentStands = (bs rest : List ℕ) (after : Bool) → comment_at (length bs) 0 bs ≡
    Some (after, rest) → IsComment 0 after bs rest

abbrev pub StandingCommentIsRead : Type 0
StandingCommentIsRead = (bs rest : List ℕ) (after : Bool) → IsComment 0 after bs rest →
    comment_at (length bs) 0 bs ≡ Some (after, rest)

-- ---- a source, by a machine that may go by all pieces so far

abbrev pub ReadSourceStands : Type 0
ReadSourceStands = (style : List ℕ → Style) (wants : List Piece → List ℕ → Option Body)
    (step : List Piece → Piece → Option (List Piece)) (s next : List Piece) (bs : List ℕ) →
    source_at style wants step (length bs) false s bs ≡ Some next
    → (ps : List Piece) × IsSource (styled style) false ps bs × (all_steps step ps s ≡ Some next)

abbrev pub StandingSourceIsRead : Type 0
StandingSourceIsRead = (style : List ℕ → Style) (wants : List Piece → List ℕ → Option Body)
    (step : List Piece → Piece → Option (List Piece)) (s next : List Piece) (bs : List ℕ)
    (ps : List Piece) → TakesWanted wants step
    → IsSource (styled style) false ps bs → all_steps step ps s ≡ Some next →
    source_at style wants step (length bs) false s bs ≡ Some next

-- ---- where the style of each name is items, the grammar is that of items alone

abbrev pub ItemsAreOnlyItems : Type 0
ItemsAreOnlyItems = (style : List ℕ → Style) (front : Bool) (ps : List Piece) (bs : List ℕ) →
    ((w : List ℕ) → style w ≡ styles.Items)
    → (IsSource (styled style) front ps bs → IsSource only_items front ps bs) ×
    (IsSource only_items front ps bs → IsSource (styled style) front ps bs)
