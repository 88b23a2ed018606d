-- The filters that write HTML.
-- What they are given is written as it is: who has a text of strangers escapes it first.
use Rattle.std.specs.Prelude.{List, [], ◌++◌, drop, Ok, codes, if◌then◌else◌}
use Rattle.liquid_model.specs.Data.{Datum, text, text_of, truthy}
use Rattle.liquid_model.specs.Texts.{Text}
use Rattle.liquid_model.specs.Arguments.{Answer, text_or}
use Rattle.liquid_shopify_host_filters.specs.Urls.{collection_url}

-- `img_tag`
abbrev pub image : Text → Text → Text
image url alt = codes "<img src=\"" ++ (url ++ (codes "\" alt=\"" ++ (alt ++ codes "\" />")))

abbrev pub img_tag_answer : Datum → List Datum → Answer
img_tag_answer d args = Ok (text (image (text_of d) (text_or [] args)))

-- `script_tag`
abbrev pub script : Text → Text
script url = codes "<script src=\"" ++ (url ++ codes "\" type=\"text/javascript\"></script>")

abbrev pub script_tag_answer : Datum → Answer
script_tag_answer d = Ok (text (script (text_of d)))

-- `stylesheet_tag`
abbrev pub style_sheet : Text → Text → Text
style_sheet url media =
    codes "<link href=\"" ++ (url
    ++ (codes "\" rel=\"stylesheet\" type=\"text/css\"  media=\"" ++ (media ++ codes "\"  />")))

abbrev pub stylesheet_tag_answer : Datum → List Datum → Answer
stylesheet_tag_answer d args = Ok (text (style_sheet (text_of d) (text_or (codes "all") args)))

-- a link with a title
abbrev pub link : Text → Text → Text → Text
link label url title =
    codes "<a href=\"" ++
    (url ++ (codes "\" title=\"" ++ (title ++ (codes "\">" ++ (label ++ codes "</a>")))))

-- `link_to`: the address is the first argument, and the title the second
abbrev pub link_to_answer : Datum → List Datum → Answer
link_to_answer d args = Ok (text (link (text_of d) (text_or [] args) (text_or [] (drop 1 args))))

-- `link_to_vendor` and `link_to_type`: a link to the collection of the title's handle
abbrev pub titled_link : Text → Text
titled_link title = link title (collection_url title) title

abbrev pub link_to_collection_answer : Datum → Answer
link_to_collection_answer d =
    if truthy d then Ok (text (titled_link (text_of d))) else Ok (text (codes "Unknown Vendor"))
