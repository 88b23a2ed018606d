-- Lists in JSON that aren't closed: with one more item, and with their end.
use Rattle.std.proofs.Common.{◌≡◌, Bool, true, false, List, [], ◌∷◌, ◌++◌, codes, fold, refl, sym, ap, ◌∙◌, append_assoc, append-nil}
use Rattle.std.proofs.lemmas.List.Sums.{fold-append}
use Rattle.json.specs.Print.{ends, print, print_from, separator}
use Rattle.json.specs.Token.{Token}
use Rattle.json.proofs.Printed.Tokens.{print_from_push, print_from-append}
use Rattle.liquid_model.specs.Data.{Datum, nil, truth, number, text, array, object, Items, no_items, item, Pairs, no_pairs, pair}
use Rattle.liquid_model.specs.View.{items_view, view}
use Rattle.liquid_model.specs.declared.value.Value.{Value}
use Rattle.liquid_json.specs.JsonTexts.{items_tokens, json_text, json_tokens, pairs_tokens}
use Rattle.liquid_answers.specs.inside.Listed.{comma_after, front_tokens, list_front}

-- whether a value has just ended
abbrev ended : Bool → List Token → Bool
ended = fold (λ _ t. ends t)

-- ---- a value's tokens end it, and begin with a comma after another

items_end : (after : Bool) (ds : Items) → ended after (items_tokens ds) ≡ true
items_end after no_items = refl
items_end after (item d ds) = fold-append (λ _ t. ends t) after (json_tokens d) (items_tokens ds) ∙ items_end (ended after (json_tokens d)) ds

pairs_end : (after : Bool) (ms : Pairs) → ended after (pairs_tokens ms) ≡ true
pairs_end after no_pairs = refl
pairs_end after (pair k d ms) = fold-append (λ _ t. ends t) false (json_tokens d) (pairs_tokens ms) ∙ pairs_end (ended false (json_tokens d)) ms

value_ends : (after : Bool) (d : Datum) → ended after (json_tokens d) ≡ true
value_ends after nil = refl
value_ends after (truth b) = refl
value_ends after (number z) = refl
value_ends after (text s) = refl
value_ends after (array ds) = items_end false ds
value_ends after (object ms) = pairs_end false ms

after_comma : (d : Datum) → print_from true (json_tokens d) ≡ codes "," ++ json_text d
unfolding print_from
after_comma nil = refl
after_comma (truth b) = refl
after_comma (number z) = refl
after_comma (text s) = refl
after_comma (array ds) = refl
after_comma (object ms) = refl

-- ---- a list's front

front_ends : (ds : Items) → ended true (front_tokens ds) ≡ true
front_ends no_items = refl
front_ends (item d ds) =
    fold-append (λ _ t. ends t) true (json_tokens d) (front_tokens ds) ∙ ap (λ b. ended b (front_tokens ds)) (value_ends true d) ∙ front_ends ds

tokens_more : (cs : List Value) (c : Value) → front_tokens (items_view (cs ++ c ∷ [])) ≡ front_tokens (items_view cs) ++ json_tokens (view c)
tokens_more [] c = append-nil (json_tokens (view c))
tokens_more (x ∷ cs) c = ap (λ ts. json_tokens (view x) ++ ts) (tokens_more cs c) ∙ sym (append_assoc (json_tokens (view x)) (front_tokens (items_view cs)) (json_tokens (view c)))

next_text : (cs : List Value) (c : Value) → print_from (ended false (front_tokens (items_view cs))) (json_tokens (view c)) ≡ comma_after cs ++ json_text (view c)
next_text [] c = refl
next_text (x ∷ cs) c =
    ap (λ b. print_from b (json_tokens (view c)))
    (fold-append (λ _ t. ends t) false (json_tokens (view x)) (front_tokens (items_view cs)) ∙ ap (λ b. ended b (front_tokens (items_view cs))) (value_ends false (view x)) ∙ front_ends (items_view cs))
    ∙ after_comma (view c)

pub front_none : codes "[" ≡ list_front no_items
unfolding print_from
front_none = refl

pub front_more : (cs : List Value) (c : Value) → list_front (items_view cs) ++ (comma_after cs ++ json_text (view c)) ≡ list_front (items_view (cs ++ c ∷ []))
front_more cs c =
    ap (λ t. list_front (items_view cs) ++ t) (sym (next_text cs c))
    ∙ sym (print_from-append false (Token.begin_array ∷ front_tokens (items_view cs)) (json_tokens (view c)))
    ∙ ap (λ ts. print (Token.begin_array ∷ ts)) (sym (tokens_more cs c))

tokens_closed : (ds : Items) → items_tokens ds ≡ front_tokens ds ++ Token.end_array ∷ []
tokens_closed no_items = refl
tokens_closed (item d ds) = ap (λ ts. json_tokens d ++ ts) (tokens_closed ds) ∙ sym (append_assoc (json_tokens d) (front_tokens ds) (Token.end_array ∷ []))

no_comma : (after : Bool) → separator after Token.end_array ≡ []
no_comma true = refl
no_comma false = refl

pub front_closed : (ds : Items) → list_front ds ++ codes "]" ≡ json_text (array ds)
front_closed ds =
    let front = Token.begin_array ∷ front_tokens ds in
    ap (λ t. list_front ds ++ (t ++ codes "]")) (sym (no_comma (ended false front)))
    ∙ sym (print_from_push false front Token.end_array)
    ∙ ap (λ ts. print (Token.begin_array ∷ ts)) (sym (tokens_closed ds))
