-- The filter of the tag `feed_meta` of Jekyll's feeds: the element of HTML that leads to the feed.
-- The input counts for nothing, and the arguments are the settings of the feed, the title of the
-- site, and its name.
use Rattle.std.specs.Prelude.{List, [], ◌∷◌, ◌++◌, Ok, Err, codes, if◌then◌else◌}
use Rattle.liquid_model.specs.Data.{Datum, text, text_of, truthy}
use Rattle.liquid_model.specs.Fallible.{◌>>=◌}
use Rattle.liquid_model.specs.Texts.{Text}
use Rattle.liquid_model.specs.Arguments.{Answer}
use Rattle.liquid_model.specs.declared.error.ErrorKind.TheVariants.{InvalidArgument}
use Rattle.liquid_jekyll_host_filters.specs.Escapes.{escaped}
use Rattle.liquid_jekyll_host_filters.specs.Properties.{map_member}
use Rattle.liquid_jekyll_host_filters.specs.Urls.{site_url}

-- the first, unless it is nil or false
abbrev pub or_other : Datum → Datum → Datum
or_other d other = if truthy d then d else other

abbrev pub title_attribute : Datum → Text
title_attribute d =
    if truthy d then codes " title=\"" ++ (escaped (text_of d) ++ codes "\"") else []

abbrev pub feed_element : Text → Datum → Text
feed_element url title =
    codes "<link type=\"application/atom+xml\" rel=\"alternate\" href=\"" ++
    (escaped url ++ (codes "\"" ++ (title_attribute title ++ codes " />")))

abbrev pub feed_path : Datum → Datum
feed_path feed = or_other (map_member (codes "path") feed) (text (codes "feed.xml"))

abbrev pub shown_feed : Datum → Datum → Answer
shown_feed title url = Ok (text (feed_element (text_of url) title))

-- the element for the path of a feed, and a title
abbrev pub feed_link : Text → Text → Datum → Datum → Answer
feed_link address base path title = site_url address base path >>= shown_feed title

-- `feed_meta`: a feed without a path is `feed.xml`, and the title is left out where there is none
abbrev pub feed_meta_answer : Text → Text → Datum → List Datum → Answer
feed_meta_answer address base d (feed ∷ title ∷ name ∷ args) =
    feed_link address base (feed_path feed) (or_other title name)
feed_meta_answer address base d args = Err InvalidArgument
