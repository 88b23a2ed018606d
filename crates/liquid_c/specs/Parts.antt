-- What a caller reads from a handle, part by part.
--     part_in part held      the part of this number; empty where there is none
use Rattle.std.specs.Prelude.{ℕ, Option, Some, None, [], nat_eq, if◌then◌else◌, option_map}
use Rattle.std.specs.Prelude.{string_bytes}
use Rattle.liquid_model.specs.Texts.{Text}
use Rattle.liquid_model.specs.ErrorKinds.{name_of}
use Rattle.liquid_model.specs.Errors.{message_text}
use Rattle.liquid_model.specs.declared.error.Error.{Error}
use Rattle.liquid_model.specs.declared.origin.Location.{Location}
use Rattle.liquid_model.specs.declared.origin.Origin.{Origin}
use Rattle.liquid_model.specs.declared.origin.Origin.TheVariants.{Template, Partial, Data}
use Rattle.liquid_c.specs.Numbers.{content_fault, text_of_handle}
use Rattle.liquid_c.specs.declared.content.Content.{Content}

abbrev pub location_of_fault : Error → Option Location
location_of_fault e = option_map (λ l. l.value) e.location

abbrev pub partial_of_origin : Origin → Text
partial_of_origin (Partial name) = string_bytes name
partial_of_origin _ = []

abbrev pub partial_of_location : Option Location → Text
partial_of_location None = []
partial_of_location (Some l) = partial_of_origin l.origin

abbrev pub part_of_fault : ℕ → Error → Text
part_of_fault part e =
    if nat_eq part 1 then message_text e.message else if nat_eq part 2 then name_of e.kind
    else if nat_eq part 3 then partial_of_location (location_of_fault e) else []

abbrev pub part_of_faults : ℕ → Option Error → Text
part_of_faults part None = []
part_of_faults part (Some e) = part_of_fault part e

abbrev pub part_of_handle : ℕ → Content → Text
part_of_handle part h =
    if nat_eq part 0 then text_of_handle h else part_of_faults part (content_fault h)

abbrev pub part_in : ℕ → Option Content → Text
part_in part None = []
part_in part (Some h) = part_of_handle part h

-- ---- where a fault stands

abbrev pub location_of_faults : Option Error → Option Location
location_of_faults None = None
location_of_faults (Some e) = location_of_fault e

abbrev pub location_in : Option Content → Option Location
location_in None = None
location_in (Some h) = location_of_faults (content_fault h)

abbrev pub number_of_origin : Origin → ℕ
number_of_origin Template = 1
number_of_origin (Partial name) = 2
number_of_origin Data = 3

-- the number of the text, the line and the column; or 0, with the old line and column
abbrev pub located : Option Location → ℕ → ℕ → ℕ × (ℕ × ℕ)
located (Some l) line column = (number_of_origin l.origin, (l.line, l.column))
located None line column = (0, (line, column))
