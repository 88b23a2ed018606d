-- The filter `slugify`.
use Rattle.std.specs.Prelude.{ℕ, Bool, true, false, not, ◌==◌, ◌&&◌, ◌||◌, List, [], ◌∷◌, ◌++◌}
use Rattle.std.specs.Prelude.{length, map, bytes_eq, codes, if◌then◌else◌, Result, Ok, Err}
use Rattle.std.specs.Char.{is_ascii_alphanumeric, is_ascii_digit, is_whitespace, to_ascii_lowercase}
use Rattle.std.specs.Str.{chars, encode_utf8_all, trim}
use Rattle.unicode.specs.Binary.{is_alphabetic}
use Rattle.liquid_model.specs.Data.{Datum, text, text_of}
use Rattle.liquid_model.specs.Fallible.{◌>>=◌}
use Rattle.liquid_model.specs.Texts.{Text}
use Rattle.liquid_model.specs.declared.error.ErrorKind.{ErrorKind}
use Rattle.liquid_model.specs.declared.error.ErrorKind.TheVariants.{Unsupported}
use Rattle.liquid_model.specs.Arguments.{Answer}
use Rattle.liquid_filters.specs.declared.jekyll.slugify.Mode.{Mode}
use Rattle.liquid_filters.specs.declared.jekyll.slugify.Mode.TheVariants.{Default}
use Rattle.liquid_filters.specs.declared.jekyll.slugify.Mode.TheVariants.{Raw}
use Rattle.liquid_filters.specs.declared.jekyll.slugify.Mode.TheVariants.{Pretty}
use Rattle.liquid_filters.specs.declared.jekyll.slugify.Mode.TheVariants.{Ascii}
use Rattle.liquid_filters.specs.declared.jekyll.slugify.Mode.TheVariants.{Nothing}

-- the mode of a name; any other name is the default mode
abbrev pub mode_named : Text → Result Mode ErrorKind
mode_named s =
    if bytes_eq s (codes "raw") then Ok Raw
    else (if bytes_eq s (codes "pretty") then Ok Pretty
    else (if bytes_eq s (codes "ascii") then Ok Ascii
    else (if bytes_eq s (codes "none") then Ok Nothing
    else (if bytes_eq s (codes "latin") then Err Unsupported else Ok Default))))

-- . _ ~ ! $ & ' ( ) + , ; = @
abbrev pub is_pretty : ℕ → Bool
is_pretty c =
    c == 46 || c == 95 || c == 126 || c == 33 || c == 36 || c == 38 || c == 39
    || c == 40 || c == 41 || c == 43 || c == 44 || c == 59 || c == 61 || c == 64

-- whether a mode keeps a character
abbrev pub keeps : Mode → ℕ → Bool
keeps Default c = is_alphabetic c || is_ascii_digit c
keeps Raw c = not (is_whitespace c)
keeps Pretty c = is_alphabetic c || is_ascii_digit c || is_pretty c
keeps Ascii c = is_ascii_alphanumeric c
keeps Nothing c = true

-- a character that is kept, or a hyphen for the first of a run that isn't
abbrev pub slug_character : Bool → Bool → ℕ → List ℕ
slug_character true after c = c ∷ []
slug_character false true c = []
slug_character false false c = 45 ∷ []

-- each longest run of characters that aren't kept as one hyphen; the truth value says whether one
-- was just before
abbrev pub hyphened : (ℕ → Bool) → Bool → List ℕ → List ℕ
hyphened kept after [] = []
hyphened kept after (c ∷ cs) = slug_character (kept c) after c ++ hyphened kept (not (kept c)) cs

abbrev pub without_first : List ℕ → List ℕ
without_first [] = []
without_first (c ∷ cs) = if c == 45 then without_first cs else c ∷ cs

abbrev pub without_last : List ℕ → List ℕ
without_last [] = []
without_last (c ∷ cs) = if (c == 45) && (length (without_last cs) == 0) then [] else c ∷
    without_last cs

-- without the hyphens at both ends
abbrev pub without_outer : List ℕ → List ℕ
without_outer cs = without_last (without_first cs)

-- white space cut at both ends, runs that aren't kept as hyphens, hyphens cut at both ends, lower
-- case
abbrev pub slug : Mode → Text → Text
slug mode s =
    map to_ascii_lowercase
    (encode_utf8_all (without_outer (hyphened (keeps mode) false (chars (trim s)))))

abbrev pub slug_in : Datum → Mode → Answer
slug_in d mode = Ok (text (slug mode (text_of d)))

abbrev pub slugify_answer : Datum → List Datum → Answer
slugify_answer d [] = slug_in d Default
slugify_answer d (mode ∷ args) = mode_named (text_of mode) >>= slug_in d
