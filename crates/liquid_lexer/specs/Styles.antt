-- The written grammar of what stands after a tag's name, up to its closer, by the style in which
-- tags of the name are read: items, a path and then items, or one text. In each relation bs begins
-- with what is named, and rest follows it.
use Rattle.std.specs.Prelude.{◌≡◌, ℕ, List, [], ◌∷◌, ◌++◌, Bool, true, false, not, ◌==◌, ◌||◌}
use Rattle.std.specs.Prelude.{◌&&◌}
use Rattle.liquid_model.specs.Data as datums
use Rattle.liquid_core.specs.Expression.{literal}
use Rattle.liquid_model.specs.Bytes.{at_sign, close_brace, close_parenthesis, dash, dot, in_word}
use Rattle.liquid_model.specs.Bytes.{number_sign, open_parenthesis, percent, plus_sign, slash}
use Rattle.liquid_model.specs.Bytes.{tilde}
use Rattle.liquid_model.specs.Words.{Blank, IsRun, passes}
use Rattle.liquid_lexer.specs.Items.{Item, value, AreItems, IsCloser}
use Rattle.liquid_lexer.specs.ValueReading.{without_trailing_white}
use Rattle.liquid_lexer.specs.declared.item.Delimiter.TheVariants.{Tag}
use Rattle.liquid_lexer.specs.declared.style.Style.{Style}
use Rattle.liquid_lexer.specs.declared.style.Style.TheVariants.{Items, PathFirst, Text}

-- `.` and `/`, of which no two stand in a row in a path
abbrev pub is_path_separator : ℕ → Bool
is_path_separator b = b == dot || b == slash

abbrev pub begins_path_separator : List ℕ → Bool
begins_path_separator [] = false
begins_path_separator (b ∷ bs) = is_path_separator b

-- what a path may have besides letters, digits, `_` and `-`
abbrev pub is_path_mark : ℕ → Bool
is_path_mark b = is_path_separator b || b == open_parenthesis || b == close_parenthesis ||
    b == plus_sign || b == tilde || b == number_sign || b == at_sign

-- A path goes on over b, before bs. A `-` directly before a closer isn't taken.
unfoldable pub in_path : ℕ → List ℕ → Bool
in_path b bs = in_word b bs ||
    (is_path_mark b && not (is_path_separator b && begins_path_separator bs))

-- `%}` stands at the front
abbrev pub closes_bare : List ℕ → Bool
closes_bare [] = false
closes_bare (b ∷ []) = false
closes_bare (b ∷ c ∷ cs) = b == percent && c == close_brace

-- `%}` or `-%}` begins at b, before bs
abbrev pub closes_tag : ℕ → List ℕ → Bool
closes_tag b bs = closes_bare (b ∷ bs) || (b == dash && closes_bare bs)

-- A text goes on over b, before bs, up to the first closer. Quotes don't keep a closer from ending
-- it.
unfoldable pub in_tag_text : ℕ → List ℕ → Bool
in_tag_text b bs = not (closes_tag b bs)

-- a text literal that is spelled without quotes
abbrev pub text_item : List ℕ → Item
text_item t = value (literal (datums.text t)) t

-- a text left empty is no item
abbrev pub text_items : List ℕ → List Item
text_items [] = []
text_items (b ∷ bs) = text_item (b ∷ bs) ∷ []

-- The truth value: the closer has a dash
pub data AreStyled : Style → List Item → Bool → List ℕ → List ℕ → Type 0 where
  are_items : {is : List Item} {d : Bool} {bs rest : List ℕ} → AreItems Tag is d bs rest →
      AreStyled Items is d bs rest
  is_path : {is : List Item} {d : Bool} {bs from next rest : List ℕ} (p : List ℕ)
      → Blank bs from → passes in_path from ≡ true → from ≡ p ++ next → IsRun in_path p next →
      AreItems Tag is d next rest → AreStyled PathFirst (text_item p ∷ is) d bs rest
  no_path : {is : List Item} {d : Bool} {bs from rest : List ℕ}
      → Blank bs from → passes in_path from ≡ false → AreItems Tag is d bs rest →
      AreStyled PathFirst is d bs rest
  -- all of the text, without the whitespace at its ends
  is_text : {d : Bool} {bs from next rest : List ℕ} (t : List ℕ)
      → Blank bs from → from ≡ t ++ next → IsRun in_tag_text t next → IsCloser Tag d next rest →
      AreStyled Text (text_items (without_trailing_white t)) d bs rest

-- what stands after a tag's name: which items, whether the closer has a dash, in which text, and
-- what follows the closer
abbrev pub FollowsName : Type 1
FollowsName = List ℕ → List Item → Bool → List ℕ → List ℕ → Type 0

-- by the style of the name
abbrev pub styled : (List ℕ → Style) → FollowsName
styled style w is d bs rest = AreStyled (style w) is d bs rest

-- items after each name
abbrev pub only_items : FollowsName
only_items w is d bs rest = AreItems Tag is d bs rest
