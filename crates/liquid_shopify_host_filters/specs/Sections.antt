-- What Shopify's blocks and tags write that aren't forms: `style`, `paginate`, `section`, and those
-- that write nothing at their place.
use Rattle.std.specs.Prelude.{List, [], ◌∷◌, ◌++◌, Option, Some, None, Ok, Err, codes}
use Rattle.liquid_model.specs.Data.{Datum, text, text_of}
use Rattle.liquid_model.specs.Texts.{Text}
use Rattle.liquid_model.specs.Arguments.{Answer, text_or}
use Rattle.liquid_model.specs.declared.error.ErrorKind.TheVariants.{InvalidArgument}
use Rattle.liquid_filters.specs.Sequences.{property}

-- `style`: an element around the rules
abbrev pub style_element : Text → Text
style_element css = codes "<style data-shopify>" ++ (css ++ codes "</style>")

abbrev pub style_answer : Datum → Answer
style_answer d = Ok (text (style_element (text_of d)))

-- what Shopify keeps for another place has no text here
abbrev pub no_text_answer : Answer
no_text_answer = Ok (text [])

-- the section's text as the data have it
abbrev pub section_text : Option Datum → Answer
section_text (Some (text s)) = Ok (text s)
section_text _ = Err InvalidArgument

-- `section`: of the sections in the input, that of the name
abbrev pub section_answer : Datum → List Datum → Answer
section_answer d args = section_text (property (text_or [] args) d)
