-- What the data says of a site or a shop.
--     member_text map name ps      the text at a name of the map at another
--     tags_in ps      the texts of `current_tags`
use Rattle.std.specs.Prelude.{List, [], ◌∷◌, Option, Some, None, codes}
use Rattle.liquid_model.specs.Data.{Datum, text, array, object, Items, no_items, item, Pairs}
use Rattle.liquid_model.specs.Find.{value_at}
use Rattle.liquid_model.specs.Texts.{Text}

abbrev pub setting_text : Datum → Option Text
setting_text (text s) = Some s
setting_text _ = None

-- of what is found at a key
abbrev pub found_setting_text : Option Datum → Option Text
found_setting_text None = None
found_setting_text (Some d) = setting_text d

abbrev pub text_in : Text → Datum → Option Text
text_in name (object ps) = found_setting_text (value_at name ps)
text_in name _ = None

abbrev pub text_in_found : Text → Option Datum → Option Text
text_in_found name None = None
text_in_found name (Some d) = text_in name d

abbrev pub member_text : Text → Text → Pairs → Option Text
member_text map name ps = text_in_found name (value_at map ps)

abbrev pub or_empty : Option Text → Text
or_empty None = []
or_empty (Some s) = s

-- the text at a name of the map at another, or the empty text
abbrev pub member_or_empty : Text → Text → Pairs → Text
member_or_empty map name ps = or_empty (member_text map name ps)

-- what stands before the name of a file of the theme in its address
abbrev pub assets_before : Option Text → Text
assets_before None = codes "/assets/"
assets_before (Some s) = s

-- ---- lists of texts

-- a text before those that follow; what is none is passed over
abbrev pub with_text : Option Text → List Text → List Text
with_text None found = found
with_text (Some s) found = s ∷ found

abbrev pub texts_of : Items → List Text
texts_of no_items = []
texts_of (item d ds) = with_text (setting_text d) (texts_of ds)

abbrev pub texts_in : Datum → List Text
texts_in (array ds) = texts_of ds
texts_in _ = []

abbrev pub texts_found : Option Datum → List Text
texts_found None = []
texts_found (Some d) = texts_in d

abbrev pub tags_in : Pairs → List Text
tags_in ps = texts_found (value_at (codes "current_tags") ps)
