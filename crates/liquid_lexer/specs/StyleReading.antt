-- What is read after a tag's name, up to its closer, as functions.
use Rattle.std.specs.Prelude.{List, ℕ, ◌∷◌, length, take, drop, Bool, true, false, Option}
use Rattle.std.specs.Option.{option_map}
use Rattle.liquid_model.specs.Front.{run_len, past_white}
use Rattle.liquid_model.specs.Words.{passes}
use Rattle.liquid_lexer.specs.ItemReading.{ReadItems, closer_at, items_at}
use Rattle.liquid_lexer.specs.Styles.{in_path, in_tag_text, text_item, text_items}
use Rattle.liquid_lexer.specs.ValueReading.{without_trailing_white}
use Rattle.liquid_lexer.specs.declared.item.Delimiter.TheVariants.{Tag}
use Rattle.liquid_lexer.specs.declared.style.Style.{Style}
use Rattle.liquid_lexer.specs.declared.style.Style.TheVariants.{Items, PathFirst, Text}

abbrev pub tag_items : List ℕ → Option ReadItems
tag_items bs = items_at Tag (length bs) bs

-- the path at the front
abbrev pub front_path : List ℕ → List ℕ
front_path bs = take (run_len in_path bs) bs

abbrev pub past_path : List ℕ → List ℕ
past_path bs = drop (run_len in_path bs) bs

-- both
abbrev pub path_and_rest : List ℕ → List ℕ × List ℕ
path_and_rest bs = (front_path bs, past_path bs)

-- where a path stands after the whitespace
abbrev pub path_or_items : List ℕ → List ℕ → Bool → Option ReadItems
path_or_items bs from true =
    option_map (λ r. (text_item (front_path from) ∷ r.0, r.1, r.2)) (tag_items (past_path from))
path_or_items bs from false = tag_items bs

-- the text at the front, up to the first closer
abbrev pub front_text : List ℕ → List ℕ
front_text bs = take (run_len in_tag_text bs) bs

abbrev pub past_text : List ℕ → List ℕ
past_text bs = drop (run_len in_tag_text bs) bs

-- both, the text without the whitespace at its end
abbrev pub text_and_rest : List ℕ → List ℕ × List ℕ
text_and_rest bs = (without_trailing_white (front_text bs), past_text bs)

-- one text, after the whitespace
abbrev pub one_text : List ℕ → Option ReadItems
one_text from =
    option_map (λ c. (text_items (without_trailing_white (front_text from)), c.0, c.1))
    (closer_at Tag (past_text from))

unfoldable pub styled_at : Style → List ℕ → Option ReadItems
styled_at Items bs = tag_items bs
styled_at PathFirst bs = path_or_items bs (past_white bs) (passes in_path (past_white bs))
styled_at Text bs = one_text (past_white bs)
