-- Characters as they are written, one after another.
use Rattle.std.proofs.Common.{◌≡◌, ℕ, [], ◌∷◌, ◌++◌, length, ap, sym, ◌∙◌, append_assoc, append-nil, arith}
use Rattle.std.proofs.lemmas.Str.{chars_past_char, chars-nil, IsUtf8-past_char}
use Rattle.std.specs.Char.{encode_utf8}
use Rattle.std.specs.Str.{IsUtf8}
use Rattle.liquid_commands.specs.Escapes.{DiagnosticText, all_shown, escaped_for, shown_in}
use Rattle.liquid_commands.specs.declared.escaped.Place.{Place}

shown_past : (place : Place) (s rest : DiagnosticText) (c : ℕ) → IsUtf8 s → s ≡ encode_utf8 c ++ rest → escaped_for place s ≡ shown_in place c ++ escaped_for place rest
shown_past place s rest c u e = ap (all_shown place) (chars_past_char s rest c u e)

-- one turn of the loop over the characters
pub shown_turn : (place : Place) (s rest out next all : DiagnosticText) (c : ℕ) → s ≡ encode_utf8 c ++ rest → next ≡ out ++ shown_in place c → IsUtf8 s × (all ≡ out ++ escaped_for place s) → IsUtf8 rest × (all ≡ next ++ escaped_for place rest)
shown_turn place s rest out next all c e g h = (
  IsUtf8-past_char s rest c h.0 e,
  h.1 ∙ ap (λ t. out ++ t) (shown_past place s rest c h.0 e) ∙ sym (append_assoc out (shown_in place c) (escaped_for place rest)) ∙ ap (λ t. t ++ escaped_for place rest) (sym g),
)

pub shown_end : (place : Place) (s out all : DiagnosticText) → length s ≡ 0 → all ≡ out ++ escaped_for place s → out ≡ all
shown_end place [] out all z h = sym (append-nil out) ∙ ap (λ cs. out ++ all_shown place cs) (sym chars-nil) ∙ sym h
shown_end place (b ∷ s) out all z h = absurd (omega (arith, z))
