-- A fault's message, where it stands, and its text.
use Rattle.std.specs.Prelude.{◌≡◌, ◌++◌, List, ℕ, [], ◌∷◌, codes, Option, Some, MatchBool, ⊤}
use Rattle.std.specs.Prelude.{String, string_bytes}
use Rattle.std.specs.declared.alloc.Global.{Global}
use Rattle.std.specs.Fmt.{decimal}
use Rattle.std.specs.Option.{option_map, option_map_or}
use Rattle.liquid_model.specs.Data.{Datum, text_of}
use Rattle.liquid_model.specs.ErrorKinds.{is_memory, name_of}
use Rattle.liquid_model.specs.Quotes.{quotation}
use Rattle.liquid_model.specs.declared.error.Error.{Error}
use Rattle.liquid_model.specs.declared.origin.Location.{Location}
use Rattle.liquid_model.specs.declared.origin.Origin.{Origin}
use Rattle.liquid_model.specs.declared.origin.Origin.TheVariants.{Template, Partial, Data}

-- memory ran out, or the fault has this message
abbrev pub HasMessageUnlessMemory : List ℕ → Error → Type 0
HasMessageUnlessMemory message e =
    MatchBool (is_memory e.kind) ⊤ (option_map string_bytes e.message ≡ Some message)

-- the message, or an empty text
abbrev pub message_text : Option (String Global) → List ℕ
message_text message = option_map_or string_bytes message []

-- what stands before a line and a column: nothing for the template itself
abbrev pub origin_text : Origin → List ℕ
origin_text Template = []
origin_text (Partial name) = codes "in the partial `" ++
    (quotation (string_bytes name) ++ codes "`: ")
origin_text Data = codes "in the data: "

-- `line 3, column 5`, with the partial or the data named before it
abbrev pub location_text : Location → List ℕ
location_text l = origin_text l.origin ++
    (codes "line " ++ (decimal l.line ++ (codes ", column " ++ decimal l.column)))

-- the same of a fault that the partial of this name tells: what it tells as its own text is that of
-- the partial
abbrev pub partial_origin_text : List ℕ → Origin → List ℕ
partial_origin_text name Template = codes "in the partial `" ++ (quotation name ++ codes "`: ")
partial_origin_text name (Partial inner) = origin_text (Partial inner)
partial_origin_text name Data = origin_text Data

abbrev pub partial_location_text : List ℕ → Location → List ℕ
partial_location_text name l = partial_origin_text name l.origin ++
    (codes "line " ++ (decimal l.line ++ (codes ", column " ++ decimal l.column)))

-- `KIND: LOCATION: MESSAGE`, without the parts that the fault doesn't have
abbrev pub error_text : Error → List ℕ
error_text e =
    name_of e.kind ++ (option_map_or (λ l. codes ": " ++ location_text l.value) e.location [] ++
    option_map_or (λ m. codes ": " ++ string_bytes m) e.message [])

-- memory ran out, or the message begins with these words, and goes on by others
abbrev pub BeginsUnlessMemory : List ℕ → Error → Type 0
BeginsUnlessMemory front e = MatchBool (is_memory e.kind) ⊤ ((words : List ℕ) ×
    (option_map string_bytes e.message ≡ Some (front ++ words)))

-- what is said first of an expression without a value, by its written form
abbrev pub without_value_front : List ℕ → List ℕ
without_value_front written = codes "`" ++ (quotation written ++ codes "` has no value")

-- what is said of a path that leads to nothing
abbrev pub nowhere_message : List Datum → List ℕ
nowhere_message [] = codes "an empty path leads to no value"
nowhere_message (name ∷ path) = codes "the path from `" ++
    (quotation (text_of name) ++ codes "` leads to no value")
