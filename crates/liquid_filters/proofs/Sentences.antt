-- Sentences, text after text.
use Rattle.std.proofs.Common.{◌≡◌, ◌==◌, Bool, List, ◌∷◌, ◌++◌, length, map, ap, sym, ◌∙◌, append_assoc}
use Rattle.std.proofs.lemmas.List.{length-map}
use Rattle.liquid_model.specs.Data.{text_of}
use Rattle.liquid_model.specs.Lists.{list_of}
use Rattle.liquid_model.specs.Texts.{Text}
use Rattle.liquid_model.specs.View.{view, items_view}
use Rattle.liquid_model.specs.declared.value.Value.{Value}
use Rattle.liquid_model.proofs.Views.{items_length}
use Rattle.liquid_filters.specs.Sentence.{next_text, next_texts}

abbrev texts : List Value → List Text
texts vs = map text_of (list_of (items_view vs))

-- one turn of the loop over the items after the first
pub turn : (connector : Text) (left after : List Value) (item : Value) (last : Bool) (old next all : Text) → left ≡ item ∷ after → last ≡ (length after == 0)
    → next ≡ old ++ next_text connector last (text_of (view item)) → all ≡ old ++ next_texts connector (texts left) → all ≡ next ++ next_texts connector (texts after)
turn connector left after item last old next all e l g h =
    let t = text_of (view item) in
    let rest = next_texts connector (texts after) in
    let n : (length (texts after) == 0) ≡ last = ap (λ n. n == 0) (length-map (list_of (items_view after)) text_of ∙ items_length after) ∙ sym l in
    h ∙ ap (λ vs. old ++ next_texts connector (texts vs)) e ∙ ap (λ b. old ++ (next_text connector b t ++ rest)) n
    ∙ sym (append_assoc old (next_text connector last t) rest) ∙ ap (λ s. s ++ rest) (sym g)
