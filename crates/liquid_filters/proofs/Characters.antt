-- Texts as their characters.
use Rattle.std.proofs.Common.{◌≡◌, ℕ, zero, suc, ◌+◌, ◌-◌, ◌<◌, take, drop, List, [], ◌∷◌, ◌++◌, ap, sym, ◌∙◌, length, arith}
use Rattle.std.proofs.lemmas.List.{take-append-drop}
use Rattle.std.proofs.lemmas.Str.{encodes-append, chars_past_char, IsUtf8-past_char, chars-nil, encodes-chars}
use Rattle.std.specs.Char.{encode_utf8, to_ascii_uppercase}
use Rattle.std.specs.Str.{chars, encode_utf8_all, IsUtf8}
use Rattle.liquid_filters.specs.Case.{capitalized, upper_first}

-- the first character in upper case, and then what follows it
pub capitalized_past : (s rest : List ℕ) (c : ℕ) → IsUtf8 s → s ≡ encode_utf8 c ++ rest → encode_utf8 (to_ascii_uppercase c) ++ rest ≡ capitalized s
capitalized_past s rest c u e =
    ap (λ t. encode_utf8 (to_ascii_uppercase c) ++ t) (sym (encodes-chars rest (IsUtf8-past_char s rest c u e)))
    ∙ ap (λ cs. encode_utf8_all (upper_first cs)) (sym (chars_past_char s rest c u e))

-- ---- the characters after the first ones
less : (n i : ℕ) → i < n → n - i ≡ suc (n - (i + 1))
less n i h = omega arith

pub skipped_turn : (s rest all : List ℕ) (c count i : ℕ) → i < count → s ≡ encode_utf8 c ++ rest → IsUtf8 s × (all ≡ drop (count - i) (chars s)) → IsUtf8 rest × (all ≡ drop (count - (i + 1)) (chars rest))
skipped_turn s rest all c count i l e h = (
  IsUtf8-past_char s rest c h.0 e,
  h.1 ∙ ap (λ n. drop n (chars s)) (less count i l) ∙ ap (drop (suc (count - (i + 1)))) (chars_past_char s rest c h.0 e),
)

no_characters : (n : ℕ) → drop n (chars []) ≡ []
no_characters zero = chars-nil
no_characters (suc n) = ap (drop (suc n)) chars-nil

pub skipped_end : (s all : List ℕ) (n : ℕ) → length s ≡ 0 → IsUtf8 s × (all ≡ drop n (chars s)) → [] ≡ encode_utf8_all all
skipped_end [] all n z h = ap encode_utf8_all (sym (no_characters n) ∙ sym h.1)
skipped_end (b ∷ s) all n z h = absurd (omega arith)

pub skipped_done : (s all : List ℕ) (n : ℕ) → n ≡ 0 → IsUtf8 s × (all ≡ drop n (chars s)) → s ≡ encode_utf8_all all
skipped_done s all n z h = sym (encodes-chars s h.0) ∙ ap encode_utf8_all (sym (h.1 ∙ ap (λ k. drop k (chars s)) z))

-- a text is its first characters and those after them
pub characters_cut : (s : List ℕ) (n : ℕ) → IsUtf8 s → s ≡ encode_utf8_all (take n (chars s)) ++ encode_utf8_all (drop n (chars s))
characters_cut s n u = sym (encodes-chars s u) ∙ ap encode_utf8_all (sym (take-append-drop n (chars s))) ∙ encodes-append (take n (chars s)) (drop n (chars s))
