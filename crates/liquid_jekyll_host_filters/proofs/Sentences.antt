-- Sentences of two items, and of others.
use Rattle.std.proofs.Common.{◌≡◌, List, [], ◌∷◌, Some, None, Ok, codes, length, get_or, ap, refl, sym, arith}
use Rattle.liquid_model.specs.Data.{Datum, array, text, text_of}
use Rattle.liquid_model.specs.View.{view, items_view}
use Rattle.liquid_model.specs.declared.value.Value.{Value}
use Rattle.liquid_model.specs.Arguments.{text_or}
use Rattle.liquid_filters.specs.Sentence.{array_to_sentence_string_answer}
use Rattle.liquid_jekyll_host_filters.specs.Sentence.{jekyll_sentence_answer, sentence_of, two_items, two_texts_joined}

pub of_two : (vs : List Value) (d e : Value) → length vs ≡ 2 → Some (view (get_or vs 0 d), view (get_or vs 1 e)) ≡ two_items (array (items_view vs))
of_two [] d e h = absurd (omega (arith, h))
of_two (v ∷ []) d e h = absurd (omega (arith, h))
of_two (v ∷ w ∷ []) d e h = refl
of_two (v ∷ w ∷ x ∷ vs) d e h = absurd (omega (arith, h))

pub of_others : (vs : List Value) → (length vs ≡ 2 → ⊥) → None ≡ two_items (array (items_view vs))
of_others [] h = refl
of_others (v ∷ []) h = refl
of_others (v ∷ w ∷ []) h = absurd (h refl)
of_others (v ∷ w ∷ x ∷ vs) h = refl

pub in_two : (d e f : Datum) (args : List Datum) → Some (e, f) ≡ two_items d → jekyll_sentence_answer d args ≡ Ok (text (two_texts_joined (text_or (codes "and") args) (text_of e) (text_of f)))
in_two d e f args h = ap (λ o. sentence_of o d args) (sym h)

pub in_others : (d : Datum) (args : List Datum) → None ≡ two_items d → jekyll_sentence_answer d args ≡ array_to_sentence_string_answer d args
in_others d args h = ap (λ o. sentence_of o d args) (sym h)
