-- The number that a text begins with.
use Rattle.std.specs.Prelude.{ℕ, ◌+◌, ℤ, pos, ◌||◌, ◌==◌, List, [], ◌∷◌, take, drop, Option, Some}
use Rattle.std.specs.Prelude.{None, Result, Ok, Err, if◌then◌else◌}
use Rattle.std.specs.Char.{is_ascii_digit, is_ascii_whitespace}
use Rattle.std.specs.List.{prefix_len}
use Rattle.liquid_model.specs.Data.{Datum, nil, truth, number, text}
use Rattle.liquid_model.specs.Fallible.{◌>>=◌}
use Rattle.liquid_model.specs.Texts.{Text}
use Rattle.liquid_model.specs.Whole.{whole_text}
use Rattle.liquid_model.specs.declared.error.ErrorKind.{ErrorKind}
use Rattle.liquid_model.specs.declared.error.ErrorKind.TheVariants.{InvalidInput, NumberRange}
use Rattle.liquid_model.specs.Arguments.{Answer}

-- a sign at the front takes one byte
abbrev pub sign_bytes : Text → ℕ
sign_bytes [] = 0
sign_bytes (b ∷ s) = if b == 45 || b == 43 then 1 else 0

-- the digits after it
abbrev pub digits_len : Text → ℕ
digits_len s = prefix_len is_ascii_digit (drop (sign_bytes s) s)

abbrev pub number_or_range : Option ℤ → Result ℤ ErrorKind
number_or_range (Some z) = Ok z
number_or_range None = Err NumberRange

-- 0 where there are no digits, and refused beyond 64 bits
abbrev pub front_number : Text → Result ℤ ErrorKind
front_number s = if digits_len s == 0 then Ok (pos 0) else number_or_range
    (whole_text (take (sign_bytes s + digits_len s) s))

-- after white space
abbrev pub leading_number : Text → Result ℤ ErrorKind
leading_number s = front_number (drop (prefix_len is_ascii_whitespace s) s)

abbrev pub jekyll_integer : Datum → Result ℤ ErrorKind
jekyll_integer nil = Ok (pos 0)
jekyll_integer (truth b) = Ok (if b then pos 1 else pos 0)
jekyll_integer (number z) = Ok z
jekyll_integer (text s) = leading_number s
jekyll_integer d = Err InvalidInput

-- `to_integer`
abbrev pub to_integer_answer : Datum → List Datum → Answer
to_integer_answer d args = jekyll_integer d >>= λ z. Ok (number z)
