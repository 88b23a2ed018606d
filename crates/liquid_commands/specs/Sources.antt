-- The texts of a template and its partials.
--     text_of_origin sources origin      the text that a place is in, where there is one
use Rattle.std.specs.Prelude.{ℕ, List, Option, Some, None, option_map, slice_get, string_bytes}
use Rattle.liquid_model.specs.Texts.{Text}
use Rattle.liquid_model.specs.declared.origin.Origin.{Origin}
use Rattle.liquid_model.specs.declared.origin.Origin.TheVariants.{Template, Partial, Data}
use Rattle.liquid_files.specs.PartialNames.{Places, names_of, place_named, place_of_liquid}
use Rattle.liquid_commands.specs.declared.sources.Source.{Source}
use Rattle.liquid_commands.specs.declared.sources.Sources.{Sources}

abbrev pub source_text : Source → Text
source_text s = string_bytes s.text

-- what was found, or else this
abbrev pub first_place : Option ℕ → Option ℕ → Option ℕ
first_place None other = other
first_place (Some n) other = Some n

-- the place of a partial, or else of the one whose name has `.liquid` after this
abbrev pub partial_place : Text → Places → Option ℕ
partial_place name names = first_place (place_named name names) (place_of_liquid name names)

abbrev pub source_text_at : Option ℕ → List Source → Option Text
source_text_at None partials = None
source_text_at (Some place) partials = option_map source_text (slice_get partials place)

-- data has no text among them
abbrev pub text_of_origin : Sources → Origin → Option Text
text_of_origin sources Template = Some (source_text sources.template)
text_of_origin sources Data = None
text_of_origin sources (Partial name) =
    source_text_at (partial_place (string_bytes name) (names_of sources.names))
    sources.partials.items
