-- Lists of the pieces of a text, as they grow.
use Rattle.std.proofs.Common.{◌≡◌, ℕ, ◌<◌, List, [], ◌∷◌, ◌++◌, length, drop, map, String, Global, None, string_bytes, ap, sym, ◌∙◌, arith, append_assoc}
use Rattle.std.proofs.lemmas.List.{map-append}
use Rattle.std.proofs.lemmas.Str.{chars-nil, chars_past_char, IsUtf8-past_char}
use Rattle.std.specs.Char.{encode_utf8}
use Rattle.std.specs.Str.{chars, IsUtf8}
use Rattle.std.specs.Str.Pattern.{FindsText, SplitsAroundMatch}
use Rattle.liquid_model.specs.Data.{Datum, text}
use Rattle.liquid_model.specs.View.{view}
use Rattle.liquid_model.specs.declared.value.Value.{Value, Text}
use Rattle.liquid_model.proofs.Views.{view-Text}
use Rattle.liquid_filters.specs.Pieces.{pieces}
use Rattle.liquid_filters.proofs.Pieces.{pieces_found, pieces_none}

abbrev pub text_data : List (List ℕ) → List Datum
text_data ts = map (λ t. text t) ts

-- a list of values with one more text
pub views_text : (vs ws : List Value) (s : String Global) (t : List ℕ) → ws ≡ vs ++ Text s ∷ [] → string_bytes s ≡ t → map view ws ≡ map view vs ++ text t ∷ []
views_text vs ws s t w e = ap (map view) w ∙ map-append view vs (Text s ∷ []) ∙ ap (λ d. map view vs ++ d ∷ []) (view-Text s ∙ ap text e)

-- ---- by a text that is not empty
pub pieces_turn : (p whole rest before after : List ℕ) (done next : List Datum) → 0 < length p → SplitsAroundMatch (FindsText p) rest before after → next ≡ done ++ text before ∷ []
    → text_data (pieces p 0 whole) ≡ done ++ text_data (pieces p 0 rest) → text_data (pieces p 0 whole) ≡ next ++ text_data (pieces p 0 after)
pieces_turn p whole rest before after done next l h g inv =
    let cut : drop h.0 rest ≡ p ++ after = h.2.1.split ∙ ap (λ t. p ++ t) (sym h.4) in
    inv ∙ ap (λ ts. done ++ text_data ts) (pieces_found p rest h.0 after l (λ k m r. h.2.0 k m r) cut)
    ∙ ap (λ t. done ++ (text t ∷ text_data (pieces p 0 after))) (sym h.3) ∙ sym (append_assoc done (text before ∷ []) (text_data (pieces p 0 after)))
    ∙ ap (λ t. t ++ text_data (pieces p 0 after)) (sym g)

pub pieces_end : (p whole rest : List ℕ) (done next : List Datum) → 0 < length p → FindsText p rest None → next ≡ done ++ text rest ∷ []
    → text_data (pieces p 0 whole) ≡ done ++ text_data (pieces p 0 rest) → next ≡ text_data (pieces p 0 whole)
pieces_end p whole rest done next l f g inv = g ∙ ap (λ ts. done ++ text_data ts) (sym (pieces_none p rest l (λ k m r. f k m r))) ∙ sym inv

-- ---- by the empty text: each character and then an empty piece
abbrev pub tail_of : List ℕ → List (List ℕ)
tail_of s = map encode_utf8 (chars s) ++ ([] ∷ [])

tail_past : (s rest : List ℕ) (c : ℕ) → IsUtf8 s → s ≡ encode_utf8 c ++ rest → tail_of s ≡ encode_utf8 c ∷ tail_of rest
tail_past s rest c u e = ap (λ cs. map encode_utf8 cs ++ ([] ∷ [])) (chars_past_char s rest c u e)

tail_end : (s : List ℕ) → length s ≡ 0 → tail_of s ≡ [] ∷ []
tail_end [] e = ap (λ cs. map encode_utf8 cs ++ ([] ∷ [])) chars-nil
tail_end (b ∷ s) e = absurd (omega arith)

pub characters_turn : (s rest : List ℕ) (all : List Datum) (vs ws : List Value) (piece : String Global) (c : ℕ) → s ≡ encode_utf8 c ++ rest → string_bytes piece ≡ encode_utf8 c → ws ≡ vs ++ Text piece ∷ []
    → IsUtf8 s × (all ≡ map view vs ++ text_data (tail_of s)) → IsUtf8 rest × (all ≡ map view ws ++ text_data (tail_of rest))
characters_turn s rest all vs ws piece c e f g inv = (
  IsUtf8-past_char s rest c inv.0 e,
  inv.1 ∙ ap (λ ts. map view vs ++ text_data ts) (tail_past s rest c inv.0 e) ∙ sym (append_assoc (map view vs) (text (encode_utf8 c) ∷ []) (text_data (tail_of rest)))
      ∙ ap (λ t. t ++ text_data (tail_of rest)) (sym (views_text vs ws piece (encode_utf8 c) g f)),
)

pub characters_end : (s : List ℕ) (all : List Datum) (vs ws : List Value) (piece : String Global) → length s ≡ 0 → string_bytes piece ≡ [] → ws ≡ vs ++ Text piece ∷ []
    → all ≡ map view vs ++ text_data (tail_of s) → map view ws ≡ all
characters_end s all vs ws piece z f g inv = views_text vs ws piece [] g f ∙ ap (λ ts. map view vs ++ text_data ts) (sym (tail_end s z)) ∙ sym inv
