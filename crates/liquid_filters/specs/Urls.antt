-- Escapes of bytes in a URL.
use Rattle.std.specs.Prelude.{ℕ, Bool, ◌||◌, ◌&&◌, ◌==◌, nat_le, List, [], ◌∷◌, map, Result, Ok}
use Rattle.std.specs.Prelude.{Err, if◌then◌else◌}
use Rattle.std.specs.List.{flat_map}
use Rattle.std.specs.Str.{is_utf8}
use Rattle.percent_encoding.specs.Percent.{percent_encode_byte, percent_decode}
use Rattle.liquid_model.specs.Data.{Datum, nil, text, text_of}
use Rattle.liquid_model.specs.Fallible.{◌>>=◌}
use Rattle.liquid_model.specs.Texts.{Text}
use Rattle.liquid_model.specs.declared.error.ErrorKind.{ErrorKind}
use Rattle.liquid_model.specs.declared.error.ErrorKind.TheVariants.{InvalidInput}
use Rattle.liquid_model.specs.Arguments.{Answer}

-- an ASCII letter or digit, `-`, `.` or `_`
abbrev pub is_kept : ℕ → Bool
is_kept b = (nat_le 97 b && nat_le b 122) || (nat_le 65 b && nat_le b 90) ||
    (nat_le 48 b && nat_le b 57) || b == 45 || b == 46 || b == 95

-- a byte that is not kept becomes `%` and two upper-case hexadecimal digits
abbrev pub url_escaped_byte : ℕ → Text
url_escaped_byte b = if is_kept b then b ∷ [] else percent_encode_byte b

abbrev pub url_escaped : Text → Text
url_escaped = flat_map url_escaped_byte

-- `+` becomes a space
abbrev pub plus_to_space : Text → Text
plus_to_space = map (λ b. if b == 43 then 32 else b)

-- then `%` with two hexadecimal digits a byte
abbrev pub unescaped : Text → List ℕ
unescaped bs = percent_decode (plus_to_space bs)

-- bytes that are UTF-8 are a text, others are refused
abbrev pub text_of_bytes : List ℕ → Result Text ErrorKind
text_of_bytes bs = if is_utf8 bs then Ok bs else Err InvalidInput

abbrev pub url_encode_answer : Datum → List Datum → Answer
url_encode_answer nil args = Ok nil
url_encode_answer d args = Ok (text (url_escaped (text_of d)))

abbrev pub url_decode_answer : Datum → List Datum → Answer
url_decode_answer nil args = Ok nil
url_decode_answer d args = text_of_bytes (unescaped (text_of d)) >>= λ t. Ok (text t)
