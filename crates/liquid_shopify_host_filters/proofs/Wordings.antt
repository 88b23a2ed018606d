-- What is made of a text's words, character by character.
use Rattle.std.proofs.Common.{◌≡◌, ℕ, List, [], ◌∷◌, ◌++◌, length, ap, refl, sym, ◌∙◌, append_assoc, append-nil, arith}
use Rattle.std.proofs.lemmas.Str.{chars_past_char, chars-nil, encodes-append, IsUtf8-past_char}
use Rattle.std.specs.Char.{encode_utf8}
use Rattle.std.specs.Str.{chars, encode_utf8_all, IsUtf8}
use Rattle.liquid_shopify_host_filters.specs.Words.{after, lead, character_role, shaped, worded_character, shown_at, worded}
use Rattle.liquid_shopify_host_filters.specs.declared.words.Place.TheVariants.{Word}
use Rattle.liquid_shopify_host_filters.specs.declared.words.State.{State}
use Rattle.liquid_shopify_host_filters.specs.declared.words.State.TheVariants.{Before, Inside, Past}
use Rattle.liquid_shopify_host_filters.specs.declared.words.Wording.{Wording}
use Rattle.liquid_shopify_host_filters.specs.declared.words.Wording.TheVariants.{Handle, Camel, Squish}

-- what stands between words is ASCII
lead_bytes : (w : Wording) (state : State) → encode_utf8_all (lead w state) ≡ lead w state
unfolding encode_utf8
lead_bytes w Before = refl
lead_bytes w Inside = refl
lead_bytes Handle Past = refl
lead_bytes Camel Past = refl
lead_bytes Squish Past = refl

-- what is appended of a word's character
pub word_shown : (w : Wording) (state : State) (out a b between : List ℕ) (c d : ℕ) → character_role w c ≡ Word
    → between ≡ lead w state → d ≡ shaped w state c → a ≡ out ++ between → b ≡ a ++ encode_utf8 d
    → b ≡ out ++ encode_utf8_all (worded_character w state c)
word_shown w state out a b between c d p l s e f =
    let last = encode_utf8 (shaped w state c) in
    f ∙ ap (λ n. a ++ encode_utf8 n) s ∙ ap (λ t. t ++ last) (e ∙ ap (λ t. out ++ t) l)
    ∙ append_assoc out (lead w state) last
    ∙ ap (λ t. out ++ (t ++ last)) (sym (lead_bytes w state))
    ∙ ap (λ t. out ++ (encode_utf8_all (lead w state) ++ t)) (sym (append-nil last))
    ∙ ap (λ t. out ++ t) (sym (encodes-append (lead w state) (shaped w state c ∷ [])))
    ∙ ap (λ q. out ++ encode_utf8_all (shown_at q w state c)) (sym p)

-- one turn of the loop over the characters
pub worded_turn : (w : Wording) (state next : State) (s rest out made all : List ℕ) (c : ℕ)
    → s ≡ encode_utf8 c ++ rest → next ≡ after w state c
    → made ≡ out ++ encode_utf8_all (worded_character w state c)
    → IsUtf8 s × (all ≡ out ++ encode_utf8_all (worded w state (chars s)))
    → IsUtf8 rest × (all ≡ made ++ encode_utf8_all (worded w next (chars rest)))
worded_turn w state next s rest out made all c e n m h =
    let past = encode_utf8_all (worded w (after w state c) (chars rest)) in (
      IsUtf8-past_char s rest c h.0 e,
      h.1 ∙ ap (λ cs. out ++ encode_utf8_all (worded w state cs)) (chars_past_char s rest c h.0 e)
          ∙ ap (λ t. out ++ t) (encodes-append (worded_character w state c) (worded w (after w state c) (chars rest)))
          ∙ sym (append_assoc out (encode_utf8_all (worded_character w state c)) past)
          ∙ ap (λ t. t ++ past) (sym m)
          ∙ ap (λ st. made ++ encode_utf8_all (worded w st (chars rest))) (sym n),
    )

pub worded_end : (w : Wording) (state : State) (s out all : List ℕ) → length s ≡ 0
    → all ≡ out ++ encode_utf8_all (worded w state (chars s)) → out ≡ all
worded_end w state [] out all z h =
    sym (append-nil out) ∙ ap (λ cs. out ++ encode_utf8_all (worded w state cs)) (sym chars-nil) ∙ sym h
worded_end w state (b ∷ s) out all z h = absurd (omega arith)
