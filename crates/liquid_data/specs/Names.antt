-- The names of a table's columns.
--     column_name form name      the name of a column that is written so
--     is_writable name      whether a template can write it as the name of a variable
--     snake_words name      its words in lower case, with `_` between them
use Rattle.std.specs.Prelude.{ℕ, ◌==◌, ◌&&◌, ◌||◌, not, cond, length, Bool, true, false}
use Rattle.std.specs.Prelude.{List, [], ◌∷◌, ◌++◌, Option, Some, None, codes, bytes_eq}
use Rattle.std.specs.Char.{is_ascii_alphanumeric, to_ascii_lowercase}
use Rattle.std.specs.Str.{chars, encode_utf8_all}
use Rattle.liquid_model.specs.Front.{word_at}
use Rattle.liquid_model.specs.Texts.{Text}
use Rattle.liquid_data.specs.declared.form.NameForm.{NameForm}
use Rattle.liquid_data.specs.declared.form.NameForm.TheVariants.{AsWritten, Snake}
use Rattle.liquid_data.specs.declared.names.NamePlace.{NamePlace}
use Rattle.liquid_data.specs.declared.names.NamePlace.TheVariants.{Before, Inside, Past}

-- words that are values, or that no template may write for one
abbrev pub is_literal : Text → Bool
is_literal name = bytes_eq name (codes "nil") || (bytes_eq name (codes "null")
    || (bytes_eq name (codes "true") || (bytes_eq name (codes "false")
    || (bytes_eq name (codes "empty") || bytes_eq name (codes "blank")))))

-- a word at the front, and nothing after it
abbrev pub is_one_word : Option (Text × Text) → Bool
is_one_word None = false
is_one_word (Some p) = length p.1 == 0

abbrev pub is_writable : Text → Bool
is_writable name = is_one_word (word_at name) && not (is_literal name)

-- between two words stands `_`
abbrev pub between_words : NamePlace → Text
between_words Before = []
between_words Inside = []
between_words Past = codes "_"

-- ASCII letters and digits are written, in lower case
abbrev pub letter_shown : NamePlace → ℕ → List ℕ
letter_shown place c = cond (is_ascii_alphanumeric c)
    (between_words place ++ (to_ascii_lowercase c ∷ [])) []

abbrev pub word_past : NamePlace → NamePlace
word_past Before = Before
word_past Inside = Past
word_past Past = Past

-- any other character ends a word
abbrev pub name_place_after : NamePlace → ℕ → NamePlace
name_place_after place c = cond (is_ascii_alphanumeric c) Inside (word_past place)

abbrev pub name_shown : NamePlace → List ℕ → List ℕ
name_shown place [] = []
name_shown place (c ∷ cs) = letter_shown place c ++ name_shown (name_place_after place c) cs

abbrev pub snake_words : Text → Text
snake_words name = encode_utf8_all (name_shown Before (chars name))

-- `_` stands before words that no template can write
abbrev pub unless_writable : Text → Text
unless_writable words = cond (is_writable words) words (codes "_" ++ words)

abbrev pub snake_name : Text → Text
snake_name name = unless_writable (snake_words name)

abbrev pub column_name : NameForm → Text → Text
column_name AsWritten name = name
column_name Snake name = snake_name name
