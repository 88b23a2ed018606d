-- The words of a name, character by character.
use Rattle.std.proofs.Common.{◌≡◌, ℕ, List, [], ◌∷◌, ◌++◌, Bool, true, false, cond, length, ap, refl, sym, ◌∙◌, append_assoc, append-nil, arith}
use Rattle.std.proofs.lemmas.Str.{chars_past_char, chars-nil, encodes-append, IsUtf8-past_char}
use Rattle.std.specs.Char.{encode_utf8, is_ascii_alphanumeric, to_ascii_lowercase}
use Rattle.std.specs.Str.{chars, encode_utf8_all, IsUtf8}
use Rattle.liquid_data.specs.Names.{name_shown, between_words, name_place_after, letter_shown}
use Rattle.liquid_data.specs.declared.names.NamePlace.{NamePlace}
use Rattle.liquid_data.specs.declared.names.NamePlace.TheVariants.{Before, Inside, Past}

-- what stands between words is ASCII
lead_bytes : (place : NamePlace) → encode_utf8_all (between_words place) ≡ between_words place
unfolding encode_utf8
lead_bytes Before = refl
lead_bytes Inside = refl
lead_bytes Past = refl

-- what is appended of a word's character
pub word_shown : (place : NamePlace) (out a b between : List ℕ) (c d : ℕ) → is_ascii_alphanumeric c ≡ true
    → between ≡ between_words place → d ≡ to_ascii_lowercase c → a ≡ out ++ between → b ≡ a ++ encode_utf8 d
    → b ≡ out ++ encode_utf8_all (letter_shown place c)
word_shown place out a b between c d p l s e f =
    let last = encode_utf8 (to_ascii_lowercase c) in
    f ∙ ap (λ n. a ++ encode_utf8 n) s ∙ ap (λ t. t ++ last) (e ∙ ap (λ t. out ++ t) l)
    ∙ append_assoc out (between_words place) last
    ∙ ap (λ t. out ++ (t ++ last)) (sym (lead_bytes place))
    ∙ ap (λ t. out ++ (encode_utf8_all (between_words place) ++ t)) (sym (append-nil last))
    ∙ ap (λ t. out ++ t) (sym (encodes-append (between_words place) (to_ascii_lowercase c ∷ [])))
    ∙ ap (λ q. out ++ encode_utf8_all (cond q (between_words place ++ (to_ascii_lowercase c ∷ [])) [])) (sym p)

-- what is appended of another one
pub none_shown : (place : NamePlace) (out : List ℕ) (c : ℕ) → is_ascii_alphanumeric c ≡ false → out ≡ out ++ encode_utf8_all (letter_shown place c)
none_shown place out c p = sym (append-nil out) ∙ ap (λ q. out ++ encode_utf8_all (cond q (between_words place ++ (to_ascii_lowercase c ∷ [])) [])) (sym p)

-- one turn of the loop over the characters
pub snake_turn : (place next : NamePlace) (s rest out made all : List ℕ) (c : ℕ)
    → s ≡ encode_utf8 c ++ rest → next ≡ name_place_after place c
    → made ≡ out ++ encode_utf8_all (letter_shown place c)
    → IsUtf8 s × (all ≡ out ++ encode_utf8_all (name_shown place (chars s)))
    → IsUtf8 rest × (all ≡ made ++ encode_utf8_all (name_shown next (chars rest)))
snake_turn place next s rest out made all c e n m h =
    let past = encode_utf8_all (name_shown (name_place_after place c) (chars rest)) in (
      IsUtf8-past_char s rest c h.0 e,
      h.1 ∙ ap (λ cs. out ++ encode_utf8_all (name_shown place cs)) (chars_past_char s rest c h.0 e)
          ∙ ap (λ t. out ++ t) (encodes-append (letter_shown place c) (name_shown (name_place_after place c) (chars rest)))
          ∙ sym (append_assoc out (encode_utf8_all (letter_shown place c)) past)
          ∙ ap (λ t. t ++ past) (sym m)
          ∙ ap (λ p. made ++ encode_utf8_all (name_shown p (chars rest))) (sym n),
    )

pub snake_end : (place : NamePlace) (s out all : List ℕ) → length s ≡ 0
    → all ≡ out ++ encode_utf8_all (name_shown place (chars s)) → out ≡ all
snake_end place [] out all z h =
    sym (append-nil out) ∙ ap (λ cs. out ++ encode_utf8_all (name_shown place cs)) (sym chars-nil) ∙ sym h
snake_end place (b ∷ s) out all z h = absurd (omega arith)
