-- URLs: what is escaped in them, and where they lead from.
use Rattle.std.specs.Prelude.{ℕ, Bool, true, false, not, ◌||◌, ◌&&◌, ◌==◌, nat_le, List, [], ◌∷◌}
use Rattle.std.specs.Prelude.{◌++◌, Ok, codes, if◌then◌else◌}
use Rattle.std.specs.Char.{is_ascii_alphabetic, is_ascii_alphanumeric, is_ascii_hexdigit}
use Rattle.percent_encoding.specs.Percent.{percent_encode_byte}
use Rattle.liquid_model.specs.Data.{Datum, nil, text, text_of}
use Rattle.liquid_model.specs.Texts.{Text}
use Rattle.liquid_model.specs.Arguments.{Answer}
use Rattle.liquid_model.specs.Text.{of_text}
use Rattle.liquid_jekyll_host_filters.specs.declared.percent.Escaping.{Escaping}
use Rattle.liquid_jekyll_host_filters.specs.declared.percent.Escaping.TheVariants.{Form, Path, Url}

-- ---- escapes

-- an ASCII letter or digit, `-`, `.`, `_` or `~`
abbrev pub is_unreserved : ℕ → Bool
is_unreserved b = is_ascii_alphanumeric b || b == 45 || b == 46 || b == 95 || b == 126

-- one of `!$&'()*+,;=`
abbrev pub is_delimiter : ℕ → Bool
is_delimiter b =
    b == 33 || b == 36 || (nat_le 38 b && nat_le b 44) || b == 59 || b == 61

-- what stays in the value of a form; in a path, with its query and its fragment; and in any part of
-- a URL
abbrev pub stays_in_path : ℕ → Bool
stays_in_path b = is_unreserved b || is_delimiter b || b == 58 || b == 64 || b == 47 || b == 63 ||
    b == 35

abbrev pub stays : Escaping → ℕ → Bool
stays Form b = is_unreserved b
stays Path b = stays_in_path b
stays Url b = stays_in_path b || b == 91 || b == 93

-- two hexadecimal digits stand at the start
abbrev pub begins_digits : Text → Bool
begins_digits [] = false
begins_digits (high ∷ []) = false
begins_digits (high ∷ low ∷ s) = is_ascii_hexdigit high && is_ascii_hexdigit low

-- the byte that is read by itself: a space of a form, and the `%` of a URL
abbrev pub escape_mark : Escaping → ℕ
escape_mark Form = 32
escape_mark Path = 37
escape_mark Url = 37

-- what stands in its place, before the text after it: a `%` that begins an escape stays
abbrev pub in_place : Escaping → Text → Text
in_place Form s = codes "+"
in_place Path s = if begins_digits s then codes "%" else codes "%25"
in_place Url s = if begins_digits s then codes "%" else codes "%25"

-- what a byte becomes, before the text after it
abbrev pub url_byte : Escaping → ℕ → Text → Text
url_byte how b s = if b == escape_mark how then in_place how s else (if stays how b then b ∷
    [] else percent_encode_byte b)

abbrev pub url_escaped_as : Escaping → Text → Text
url_escaped_as how [] = []
url_escaped_as how (b ∷ s) = url_byte how b s ++ url_escaped_as how s

-- `cgi_escape` and `uri_escape`
abbrev pub cgi_escape_answer : Datum → List Datum → Answer
cgi_escape_answer = of_text (url_escaped_as Form)

-- nil stays
abbrev pub uri_escape_answer : Datum → List Datum → Answer
uri_escape_answer nil args = Ok nil
uri_escape_answer d args = Ok (text (url_escaped_as Url (text_of d)))

-- ---- relative and absolute URLs

-- a letter, a digit, `+`, `-` or `.`
abbrev pub is_scheme_byte : ℕ → Bool
is_scheme_byte b = is_ascii_alphanumeric b || b == 43 || b == 45 || b == 46

-- bytes of a scheme stand before a colon
abbrev pub reaches_colon : Text → Bool
reaches_colon [] = false
reaches_colon (b ∷ s) = b == 58 || (is_scheme_byte b && reaches_colon s)

-- a URL is absolute if it begins with a scheme: a letter, bytes of a scheme and a colon
abbrev pub is_absolute : Text → Bool
is_absolute [] = false
is_absolute (b ∷ s) = is_ascii_alphabetic b && reaches_colon s

-- a path is there, and no slash at its front
abbrev pub has_no_slash : Text → Bool
has_no_slash [] = false
has_no_slash (b ∷ s) = not (b == 47)

-- a path with its escapes, and with a slash before it unless it has one or is empty
abbrev pub path_text : Text → Text
path_text s = (if has_no_slash s then codes "/" else []) ++ url_escaped_as Path s

abbrev pub without_slash : Text → Text
without_slash [] = []
without_slash (b ∷ []) = if b == 47 then [] else b ∷ []
without_slash (b ∷ c ∷ s) = b ∷ without_slash (c ∷ s)

-- the path under the base path of a site, of which a slash at the end doesn't count
abbrev pub relative : Text → Text → Text
relative base s = path_text (without_slash base) ++ path_text s

abbrev pub or_slash : Text → Text
or_slash [] = codes "/"
or_slash (b ∷ s) = b ∷ s

-- a path after the address of a site, where the site has one
abbrev pub addressed : Text → Text → Text
addressed [] path = path
addressed (b ∷ address) path = (b ∷ address) ++ or_slash path

-- nil stays, and so does an absolute URL; anything else is a path under the base path, after the
-- address
abbrev pub site_url : Text → Text → Datum → Answer
site_url address base nil = Ok nil
site_url address base d =
    if is_absolute (text_of d) then Ok d else Ok
    (text (addressed address (relative base (text_of d))))

-- `relative_url` is without an address
abbrev pub relative_url_answer : Text → Datum → List Datum → Answer
relative_url_answer base d args = site_url [] base d

abbrev pub absolute_url_answer : Text → Text → Datum → List Datum → Answer
absolute_url_answer address base d args = site_url address base d
