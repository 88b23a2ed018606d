-- The written grammar of a source: texts and, between them, outputs and tags.
use Rattle.std.specs.Prelude.{ℕ, List, [], ◌∷◌, ◌++◌, Bool, true, false}
use Rattle.liquid_model.specs.Bytes.{plain, open_brace}
use Rattle.liquid_model.specs.Words.{IsRun, Blank, Word}
use Rattle.liquid_lexer.specs.ValueReading.{without_trailing_white}
use Rattle.liquid_model.specs.Front.{past_white}
use Rattle.liquid_lexer.specs.Items.{Item, AreItems}
use Rattle.liquid_lexer.specs.Openers.{IsOpener}
use Rattle.liquid_lexer.specs.Styles.{FollowsName}
use Rattle.liquid_lexer.specs.Verbatim.{IsRaw, IsComment}
use Rattle.liquid_lexer.specs.declared.item.Delimiter.TheVariants.{Output, Tag}

pub data Piece : Type 0 where
  text : List ℕ → Piece
  output : List Item → Piece
  tag : List ℕ → List Item → Piece
  -- a tag without items, by its name, with the verbatim body after it up to its end
  raw : List ℕ → List ℕ → Piece
  comment : List ℕ → Piece

abbrev pub strip_front : Bool → List ℕ → List ℕ
strip_front true t = past_white t
strip_front false t = t

abbrev pub strip_back : Bool → List ℕ → List ℕ
strip_back true t = without_trailing_white t
strip_back false t = t

-- a text without the whitespace that a mark before it and a mark after it strip
abbrev pub stripped : Bool → List ℕ → Bool → List ℕ
stripped front t back = strip_back back (strip_front front t)

-- a text left empty is no piece
abbrev pub content : List ℕ → List Piece → List Piece
content [] ps = ps
content (b ∷ bs) ps = text (b ∷ bs) ∷ ps

-- what stands after a tag's name, up to its closer, is given by the name (`styled`)
module _ (follows : FollowsName) where
  -- A tag's opener, name and items. The truth values: whether its opener and its closer have a
  -- dash
  pub data IsTag : Bool → List ℕ → List Item → Bool → List ℕ → List ℕ → Type 0 where
    is_tag : {before after : Bool} {w : List ℕ} {is : List Item} {bs inside from next rest : List ℕ}
        → IsOpener Tag before bs inside → Blank inside from → Word w from next →
        follows w is after next rest → IsTag before w is after bs rest

  -- after a `{`: whether the opener has a dash, the piece, and whether the last closer has one.
  -- Whether a tag without items has a verbatim body, the language tells
  pub data IsMarkup : Bool → Piece → Bool → List ℕ → List ℕ → Type 0 where
    is_output : {before after : Bool} {is : List Item} {bs inside rest : List ℕ} →
        IsOpener Output before bs inside → AreItems Output is after inside rest →
        IsMarkup before (output is) after bs rest
    is_plain_tag : {before after : Bool} {w : List ℕ} {is : List Item} {bs rest : List ℕ} →
        IsTag before w is after bs rest → IsMarkup before (tag w is) after bs rest
    is_raw : {before front back after : Bool} {w bs body rest : List ℕ} (t : List ℕ)
        → IsTag before w [] front bs body → IsRaw t back after body rest →
        IsMarkup before (raw w (stripped front t back)) after bs rest
    is_comment : {before front after : Bool} {w bs body rest : List ℕ} →
        IsTag before w [] front bs body → IsComment 0 after body rest →
        IsMarkup before (comment w) after bs rest

  -- texts up to the leftmost opener, and what it opens. The truth value: a mark before the source
  -- strips
  pub data IsSource : Bool → List Piece → List ℕ → Type 0 where
    last : {front : Bool} {t : List ℕ} → IsRun plain t [] →
        IsSource front (content (stripped front t false) []) t
    more : {front after : Bool} {bs rest : List ℕ} {p : Piece} {ps : List Piece} (t : List ℕ)
        (before : Bool)
        → IsRun plain t (open_brace ∷ bs) → IsMarkup before p after bs rest →
        IsSource after ps rest →
        IsSource front (content (stripped front t before) (p ∷ ps)) (t ++ (open_brace ∷ bs))
