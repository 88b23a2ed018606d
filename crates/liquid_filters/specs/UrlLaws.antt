-- What the filters over URLs answer, said without them, and that the second undoes the first.
use Rattle.std.specs.Prelude.{◌≡◌, ◌⊎◌, ℕ, ◌+◌, ◌*◌, true, false, ◌&&◌, ◌==◌, List, [], ◌∷◌, Ok}
use Rattle.std.specs.Prelude.{if◌then◌else◌}
use Rattle.std.specs.Char.{digit_value, is_digit}
use Rattle.std.specs.Str.{IsUtf8}
use Rattle.liquid_model.specs.Answer.{IsTheOne}
use Rattle.liquid_model.specs.Data.{Datum, nil, text, text_of}
use Rattle.liquid_model.specs.Fallible.{◌>>=◌}
use Rattle.liquid_model.specs.Texts.{Text}
use Rattle.liquid_model.specs.Arguments.{Answer}
use Rattle.liquid_model.specs.Text.{Makes}
use Rattle.liquid_filters.specs.HtmlLaws.{Concatenates, NilOrTexts}
use Rattle.liquid_filters.specs.Urls.{text_of_bytes, url_decode_answer, url_encode_answer}
use Rattle.liquid_filters.specs.Urls.{url_escaped_byte}

-- `url_encode`: each byte in turn, or its escape
abbrev pub EncodesUrl : Datum → Answer → Type 0
EncodesUrl d = NilOrTexts (Concatenates (λ b bs. url_escaped_byte b)) d

abbrev pub UrlEncodeIsOne : Type 0
UrlEncodeIsOne = (d : Datum) (args : List Datum) →
    IsTheOne (EncodesUrl d) (url_encode_answer d args)

-- no `%` with two hexadecimal digits stands at the start
abbrev pub BeginsNoEscape : Text → Type 0
BeginsNoEscape s = (high low : ℕ) (rest : Text) → s ≡ 37 ∷ high ∷ low ∷ rest →
    (is_digit high 16 && is_digit low 16) ≡ false

-- bs is s from left to right: `%` and two hexadecimal digits are the byte that they write, any
-- other `+` is a space, and any other byte is itself
abbrev pub Decodes : Text → List ℕ → Type 0
Decodes s [] = s ≡ []
Decodes s (b ∷ bs) =
    ((high : ℕ) × (low : ℕ) × (rest : Text) × (s ≡ 37 ∷ high ∷ low ∷ rest) ×
    ((is_digit high 16 && is_digit low 16) ≡ true) ×
    (b ≡ 16 * digit_value high + digit_value low) × Decodes rest bs)
    ⊎ ((c : ℕ) × (rest : Text) × (s ≡ c ∷ rest) × BeginsNoEscape s ×
    (b ≡ (if c == 43 then 32 else c)) × Decodes rest bs)

-- nil stays; of anything else the answer is the text of the bytes, or InvalidInput
abbrev pub UrlDecodes : Datum → Answer → Type 0
UrlDecodes nil a = a ≡ Ok nil
UrlDecodes d a = Makes (λ bs. text_of_bytes bs >>= λ t. Ok (text t)) (Decodes (text_of d)) a

abbrev pub UrlDecodeIsOne : Type 0
UrlDecodeIsOne = (d : Datum) (args : List Datum) →
    IsTheOne (UrlDecodes d) (url_decode_answer d args)

-- decoding what was encoded gives the text back
abbrev pub UrlDecodeUndoesEncode : Type 0
UrlDecodeUndoesEncode = (s : Text) → IsUtf8 s →
    url_encode_answer (text s) [] >>= (λ e. url_decode_answer e []) ≡ Ok (text s)
