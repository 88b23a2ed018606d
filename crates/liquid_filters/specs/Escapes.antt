-- The escapes of HTML. Each of them is of ASCII letters alone, so a text is seen byte by byte, each
-- with the rest after it.
use Rattle.std.specs.Prelude.{ℕ, Bool, ◌&&◌, ◌||◌, ◌==◌, List, [], ◌∷◌, ◌++◌, Option, Some, None}
use Rattle.std.specs.Prelude.{Ok, codes, if◌then◌else◌}
use Rattle.std.specs.Char.{encode_utf8}
use Rattle.std.specs.List.{flat_map}
use Rattle.liquid_model.specs.Data.{Datum, nil, text, text_of}
use Rattle.liquid_model.specs.Texts.{Text}
use Rattle.liquid_model.specs.Arguments.{Answer}
use Rattle.liquid_model.specs.Text.{begins}

-- `<`, `>`, `'`, `"` and `&` have an escape
abbrev pub escape_of : ℕ → Option Text
escape_of c =
    if c == 60 then Some (codes "&lt;") else (if c == 62 then Some
    (codes "&gt;") else (if c == 39 then Some (codes "&#39;")
    else (if c == 34 then Some (codes "&quot;") else (if c == 38 then Some
    (codes "&amp;") else None))))

abbrev pub escape_or : Option Text → Text → Text
escape_or (Some e) own = e
escape_or None own = own

-- a character's escape, or its own bytes
abbrev pub escaped_letter : ℕ → Text
escaped_letter c = escape_or (escape_of c) (encode_utf8 c)

-- a byte's escape, or the byte
abbrev pub escaped_byte : ℕ → Text
escaped_byte b = escape_or (escape_of b) (b ∷ [])

abbrev pub escaped_bytes : Text → Text
escaped_bytes = flat_map escaped_byte

-- the text begins with what follows the `&` of an escape
abbrev pub ends_escape : Text → Bool
ends_escape s = begins (codes "lt;") s || begins (codes "gt;") s || begins (codes "#39;") s ||
    begins (codes "quot;") s || begins (codes "amp;") s

-- an `&` that begins an escape stays
abbrev pub once_byte : ℕ → Text → Text
once_byte b s = if b == 38 && ends_escape s then b ∷ [] else escaped_byte b

-- a character's own bytes where it is such an `&`, or its escape
abbrev pub once_letter : ℕ → Text → Text
once_letter c s = if c == 38 && ends_escape s then encode_utf8 c else escaped_letter c

abbrev pub escaped_once : Text → Text
escaped_once [] = []
escaped_once (b ∷ s) = once_byte b s ++ escaped_once s

abbrev pub escape_answer : Datum → List Datum → Answer
escape_answer nil args = Ok nil
escape_answer d args = Ok (text (escaped_bytes (text_of d)))

abbrev pub escape_once_answer : Datum → List Datum → Answer
escape_once_answer nil args = Ok nil
escape_once_answer d args = Ok (text (escaped_once (text_of d)))
