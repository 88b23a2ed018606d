-- The filter `product_img_url`.
use Rattle.std.specs.Prelude.{ℕ, ◌+◌, ◌==◌, ◌&&◌, ◌||◌, nat_lt, slice_index, Bool, true, false}
use Rattle.std.specs.Prelude.{List, [], ◌∷◌, ◌++◌, length, take, drop, Option, Some, None, Ok, Err}
use Rattle.std.specs.Prelude.{codes, bytes_eq, if◌then◌else◌}
use Rattle.std.specs.Char.{is_ascii_alphanumeric}
use Rattle.liquid_model.specs.Data.{Datum, text, text_of}
use Rattle.liquid_model.specs.Texts.{Text}
use Rattle.liquid_model.specs.declared.error.ErrorKind.TheVariants.{InvalidArgument, InvalidInput}
use Rattle.liquid_model.specs.Arguments.{Answer, text_or}
use Rattle.liquid_model.specs.Text.{begins}

-- letters, digits, _ and, where they count, hyphens
abbrev pub is_part : Bool → ℕ → Bool
is_part hyphens b = is_ascii_alphanumeric b || b == 95 || (hyphens && b == 45)

-- those that a text begins with
abbrev pub leading : Bool → Text → Text
leading hyphens [] = []
leading hyphens (b ∷ s) = if is_part hyphens b then b ∷ leading hyphens s else []

-- a name and an extension
abbrev pub ImageNameParts : Type 0
ImageNameParts = Text × Text

-- an extension has at least two characters
abbrev pub long_enough : Text → Text → Option ImageNameParts
long_enough name extension = if nat_lt (length extension) 2 then None else Some (name, extension)

-- and at most four: what follows these isn't looked at
abbrev pub with_extension : Text → Text → Option ImageNameParts
with_extension name rest = long_enough name (leading false (take 4 rest))

abbrev pub found_extension : Text → Option Text → Option ImageNameParts
found_extension name (Some rest) = with_extension name rest
found_extension name None = None

-- what follows the dot at a place, if one stands there
abbrev pub after_dot : Text → ℕ → Option Text
after_dot s n = if nat_lt n (length s) && (slice_index s n == 46) then Some
    (drop (n + 1) s) else None

-- a name that isn't empty, a dot and an extension
abbrev pub named_parts : Text → Text → Option ImageNameParts
named_parts name s = if length name == 0 then None else found_extension name
    (after_dot s (length name))

abbrev pub file_parts : Text → Option ImageNameParts
file_parts s = named_parts (leading true s) s

-- the parts of the path of a product's image
abbrev pub image_parts : Text → Option ImageNameParts
image_parts s = if begins (codes "products/") s then file_parts (drop 9 s) else None

-- the sizes, but for the original one
abbrev pub is_size : Text → Bool
is_size s =
    bytes_eq s (codes "grande") || bytes_eq s (codes "large") || bytes_eq s (codes "medium")
    || bytes_eq s (codes "compact") || bytes_eq s (codes "small") || bytes_eq s (codes "thumb")
    || bytes_eq s (codes "icon")

-- the path with the size after the name
abbrev pub resized : Text → ImageNameParts → Text → Text
resized prefix parts size =
    prefix ++ (codes "products/" ++ (parts.0 ++ (codes "_" ++ (size ++ (codes "." ++ parts.1)))))

abbrev pub sized : Text → Text → ImageNameParts → Text → Answer
sized prefix url parts size =
    if bytes_eq size (codes "original") then Ok (text (prefix ++ url))
    else (if is_size size then Ok (text (resized prefix parts size)) else Err InvalidArgument)

abbrev pub found_image : Text → Text → Text → Option ImageNameParts → Answer
found_image prefix url size (Some parts) = sized prefix url parts size
found_image prefix url size None = Err InvalidInput

-- `product_img_url`: the size is `small` where none is given
abbrev pub product_img_url_answer : Text → Datum → List Datum → Answer
product_img_url_answer prefix d args =
    found_image prefix (text_of d) (text_or (codes "small") args) (image_parts (text_of d))
