-- What the characters of a text in quotes show, one after another.
use Rattle.std.proofs.Common.{◌≡◌, ℕ, List, [], ◌∷◌, ◌++◌, Bool, true, false, cond, length, Option, Some, None, option_map, option_and_then, ap, refl, sym, ◌∙◌, append_assoc, append-nil, arith}
use Rattle.std.proofs.lemmas.Str.{chars_past_char, chars-nil, encodes-append, IsUtf8-past_char}
use Rattle.std.specs.Char.{encode_utf8}
use Rattle.std.specs.Option.{option_to_list}
use Rattle.std.specs.Str.{chars, encode_utf8_all, IsUtf8}
use Rattle.liquid_model.specs.Texts.{Text}
use Rattle.liquid_yaml.specs.Quotings.{after_character, escapes_read, is_outside_escapes}
use Rattle.liquid_yaml.specs.declared.quoting.Escape.{Escape}
use Rattle.liquid_yaml.specs.declared.quoting.Shown.{Shown}

-- the characters that are left, after what is read
abbrev pub Left : ℕ → Escape → Text → Text → Option Text
Left q e out s = option_map (λ t. out ++ encode_utf8_all t) (escapes_read q e (chars s))

pushed : (out made letters : List ℕ) → made ≡ out ++ encode_utf8_all letters → (r : Option (List ℕ))
    → option_map (λ t. out ++ encode_utf8_all t) (option_map (λ more. letters ++ more) r) ≡ option_map (λ t. made ++ encode_utf8_all t) r
pushed out made letters m None = refl
pushed out made letters m (Some more) =
    ap (λ t. Some (out ++ t)) (encodes-append letters more)
    ∙ ap Some (sym (append_assoc out (encode_utf8_all letters) (encode_utf8_all more)))
    ∙ ap (λ t. Some (t ++ encode_utf8_all more)) (sym m)

abbrev Onto : ℕ → List ℕ → Option Shown → Option (List ℕ)
Onto q cs o = option_and_then (λ s. option_map (λ more. option_to_list s.letter ++ more) (escapes_read q s.after cs)) o

pub escape_turn : (q : ℕ) (e : Escape) (s rest out made : List ℕ) (c : ℕ) (shown : Shown) (whole : Option Text)
    → s ≡ encode_utf8 c ++ rest → Some shown ≡ after_character q e c → made ≡ out ++ encode_utf8_all (option_to_list shown.letter)
    → IsUtf8 s × (whole ≡ Left q e out s) → IsUtf8 rest × (whole ≡ Left q shown.after made rest)
escape_turn q e s rest out made c shown whole cut a m h = (
  IsUtf8-past_char s rest c h.0 cut,
  h.1 ∙ ap (λ cs. option_map (λ t. out ++ encode_utf8_all t) (escapes_read q e cs)) (chars_past_char s rest c h.0 cut)
      ∙ ap (λ o. option_map (λ t. out ++ encode_utf8_all t) (Onto q (chars rest) o)) (sym a)
      ∙ pushed out made (option_to_list shown.letter) m (escapes_read q shown.after (chars rest)),
)

pub escape_refused : (q : ℕ) (e : Escape) (s rest out : List ℕ) (c : ℕ) (whole : Option Text)
    → s ≡ encode_utf8 c ++ rest → None ≡ after_character q e c → IsUtf8 s × (whole ≡ Left q e out s) → None ≡ whole
escape_refused q e s rest out c whole cut a h =
    sym (h.1 ∙ ap (λ cs. option_map (λ t. out ++ encode_utf8_all t) (escapes_read q e cs)) (chars_past_char s rest c h.0 cut)
    ∙ ap (λ o. option_map (λ t. out ++ encode_utf8_all t) (Onto q (chars rest) o)) (sym a))

abbrev Ended : Text → Bool → Option Text
Ended out b = option_map (λ t. out ++ encode_utf8_all t) (cond {A = Option (List ℕ)} b (Some []) None)

ended_by : (q : ℕ) (e : Escape) (s out : List ℕ) (whole : Option Text) → length s ≡ 0 → whole ≡ Left q e out s → whole ≡ Ended out (is_outside_escapes e)
ended_by q e [] out whole z h = h ∙ ap (λ cs. option_map (λ t. out ++ encode_utf8_all t) (escapes_read q e cs)) chars-nil
ended_by q e (b ∷ s) out whole z h = absurd (omega arith)

pub escape_end : (q : ℕ) (e : Escape) (s out : List ℕ) (whole : Option Text) → length s ≡ 0 → true ≡ is_outside_escapes e → whole ≡ Left q e out s → Some out ≡ whole
escape_end q e s out whole z o h = sym (ended_by q e s out whole z h ∙ ap (Ended out) (sym o) ∙ ap Some (append-nil out))

pub escape_open : (q : ℕ) (e : Escape) (s out : List ℕ) (whole : Option Text) → length s ≡ 0 → false ≡ is_outside_escapes e → whole ≡ Left q e out s → None ≡ whole
escape_open q e s out whole z o h = sym (ended_by q e s out whole z h ∙ ap (Ended out) (sym o))
