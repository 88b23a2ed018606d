-- `default_pagination`: links to the pages of a list, by the object `paginate` of the data.
-- Titles and addresses are written as they are.
use Rattle.std.specs.Prelude.{Bool, true, false, List, [], ◌∷◌, ◌++◌, Option, Some, None, Ok, Err}
use Rattle.std.specs.Prelude.{codes, bytes_eq, if◌then◌else◌}
use Rattle.liquid_model.specs.Data.{Datum, array, text, text_of, truthy}
use Rattle.liquid_model.specs.Lists.{list_of}
use Rattle.liquid_model.specs.Texts.{Text}
use Rattle.liquid_model.specs.Arguments.{Answer}
use Rattle.liquid_model.specs.declared.error.ErrorKind.TheVariants.{InvalidInput}
use Rattle.liquid_filters.specs.Sequences.{property}
use Rattle.liquid_shopify_host_filters.specs.Html.{link}
use Rattle.liquid_shopify_host_filters.specs.Tags.{in_class_span}

-- the text of a member, where there is one
abbrev pub shown_member : Option Datum → Text
shown_member (Some d) = text_of d
shown_member None = []

abbrev pub is_truthy : Option Datum → Bool
is_truthy (Some d) = truthy d
is_truthy None = false

-- a link by the members `title` and `url`
abbrev pub page_link : Datum → Text
page_link d =
    link (shown_member (property (codes "title") d)) (shown_member (property (codes "url") d)) []

-- a title that is no link: that of the page itself, or another
abbrev pub title_class : Text → Text → Text
title_class current title =
    if bytes_eq title current then codes "page current" else codes "deco"

abbrev pub title_span : Text → Text → Text
title_span current title = in_class_span (title_class current title) title

-- a part, where the page has this number
unfoldable pub part_span : Text → Datum → Text
part_span current d =
    if is_truthy (property (codes "is_link") d)
    then in_class_span (codes "page") (page_link d)
    else title_span current (shown_member (property (codes "title") d))

-- one more, after a space where one stands before it
unfoldable pub spaced : Text → Text → Text
spaced [] span = span
spaced (b ∷ out) span = (b ∷ out) ++ (codes " " ++ span)

abbrev pub with_page_parts : Text → Text → List Datum → Text
with_page_parts current out [] = out
with_page_parts current out (d ∷ ds) = with_page_parts current (spaced out (part_span current d)) ds

-- the page before this one or after it, where it is there
abbrev pub with_neighbour : Text → Text → Option Datum → Text
with_neighbour class out None = out
with_neighbour class out (Some d) =
    if truthy d then spaced out (in_class_span class (page_link d)) else out

abbrev pub page_links : Datum → List Datum → Text
page_links d parts = with_neighbour (codes "next")
    (with_page_parts (shown_member (property (codes "current_page") d))
    (with_neighbour (codes "prev") [] (property (codes "previous") d)) parts)
    (property (codes "next") d)

abbrev pub links_of : Datum → Option Datum → Answer
links_of d (Some (array parts)) = Ok (text (page_links d (list_of parts)))
links_of d _ = Err InvalidInput

-- `default_pagination`
abbrev pub pagination_answer : Datum → Answer
pagination_answer d = links_of d (property (codes "parts") d)
