-- The characters of a name, as they are shown one after another.
use Rattle.std.proofs.Common.{◌≡◌, ℕ, Bool, true, false, cond, [], ◌∷◌, ◌++◌, ◌-◌, ◌≤◌, length, refl, ap, sym, ◌∙◌, append-nil, arith}
use Rattle.std.proofs.lemmas.Bool.{ne_eqb}
use Rattle.std.proofs.lemmas.Str.{chars_past_char, chars-nil}
use Rattle.std.specs.Char.{encode_utf8}
use Rattle.std.specs.Str.{chars, IsUtf8}
use Rattle.liquid_model.proofs.Quotes.{quoted_end, quoted_turn}
use Rattle.liquid_model.specs.Quotes.{character_shown, cost, is_hidden, most_quoted, quotation, quoted}
use Rattle.liquid_model.specs.Texts.{Text}
use Rattle.liquid_files.specs.ShownNames.{shown_letter, shown_letters, shown_name}

-- one turn of the loop over the characters
pub name_turn : (s rest : Text) (c : ℕ) → IsUtf8 s → s ≡ encode_utf8 c ++ rest → shown_letters (chars s) ≡ shown_letter c ++ shown_letters (chars rest)
name_turn s rest c u e = ap shown_letters (chars_past_char s rest c u e)

pub name_end : (s : Text) → length s ≡ 0 → shown_letters (chars s) ≡ []
name_end [] z = ap shown_letters chars-nil
name_end (b ∷ s) z = absurd (omega arith)

-- a single character is shown whole
costs_little : (b : Bool) → cond b 8 1 ≤ 60
costs_little true = omega arith
costs_little false = omega arith

pub one_character : (s : Text) (c : ℕ) → IsUtf8 s → s ≡ encode_utf8 c → quotation s ≡ character_shown c
one_character s c u e =
    quoted_turn most_quoted (cost c) c s [] u (e ∙ sym (append-nil (encode_utf8 c))) refl (costs_little (is_hidden c))
    ∙ ap (λ t. character_shown c ++ t) (quoted_end (most_quoted - cost c) [] refl) ∙ append-nil (character_shown c)

-- as is one that is no backslash
pub other_letter : (s : Text) (c : ℕ) → IsUtf8 s → s ≡ encode_utf8 c → (c ≡ 92 → ⊥) → quotation s ≡ shown_letter c
other_letter s c u e n = rw (ne_eqb c 92 n) (one_character s c u e)
