-- Blanks, character by character.
use Rattle.std.proofs.Common.{◌≡◌, ℕ, [], ◌∷◌, ◌++◌, length, map, ap, sym, ◌∙◌, append_assoc, append-nil, arith}
use Rattle.std.proofs.lemmas.Str.{chars_past_char, chars-nil, IsUtf8-past_char}
use Rattle.std.specs.Char.{encode_utf8}
use Rattle.std.specs.Str.{encode_utf8_all, IsUtf8}
use Rattle.liquid_model.specs.Texts.{Text}
use Rattle.liquid_check.specs.Blanks.{blank_for, blanked}

blanked_past : (s rest : Text) (c : ℕ) → IsUtf8 s → s ≡ encode_utf8 c ++ rest → blanked s ≡ encode_utf8 (blank_for c) ++ blanked rest
blanked_past s rest c u e = ap (λ cs. encode_utf8_all (map blank_for cs)) (chars_past_char s rest c u e)

-- one turn of the loop over the characters
pub blanked_turn : (s rest out next all : Text) (c d : ℕ) → s ≡ encode_utf8 c ++ rest → d ≡ blank_for c → next ≡ out ++ encode_utf8 d → IsUtf8 s × (all ≡ out ++ blanked s) → IsUtf8 rest × (all ≡ next ++ blanked rest)
blanked_turn s rest out next all c d e q g h = (
  IsUtf8-past_char s rest c h.0 e,
  h.1 ∙ ap (λ t. out ++ t) (blanked_past s rest c h.0 e) ∙ ap (λ x. out ++ (encode_utf8 x ++ blanked rest)) (sym q) ∙ sym (append_assoc out (encode_utf8 d) (blanked rest)) ∙ ap (λ t. t ++ blanked rest) (sym g),
)

pub blanked_end : (s out all : Text) → length s ≡ 0 → all ≡ out ++ blanked s → out ≡ all
blanked_end [] out all z h = sym (append-nil out) ∙ ap (λ cs. out ++ encode_utf8_all (map blank_for cs)) (sym chars-nil) ∙ sym h
blanked_end (b ∷ s) out all z h = absurd (omega (arith, z))
