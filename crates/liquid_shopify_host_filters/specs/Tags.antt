-- The filters that write links to the products of tags, and `within`.
-- A page has a collection, by its handle, and tags, each once.
use Rattle.std.specs.Prelude.{Bool, true, false, ◌||◌, List, [], ◌∷◌, ◌++◌, Option, Some, None, Ok}
use Rattle.std.specs.Prelude.{codes, bytes_eq, if◌then◌else◌}
use Rattle.liquid_model.specs.Data.{Datum, text, text_of}
use Rattle.liquid_model.specs.Texts.{Text}
use Rattle.liquid_model.specs.Arguments.{Answer, text_or}
use Rattle.liquid_filters.specs.Sequences.{property}

-- the other tags, each with a + after it, and then this one
abbrev pub with_tag : List Text → Text → Text
with_tag [] tag = tag
with_tag (t ∷ ts) tag =
    if bytes_eq t tag then with_tag ts tag
    else t ++ (codes "+" ++ with_tag ts tag)

-- what stands before a tag
abbrev pub joint : Bool → Text
joint true = []
joint false = codes "+"

-- the other tags with a + between them, where the truth value says whether none stands before
abbrev pub other_tags : Bool → List Text → Text → Text
other_tags is_first [] tag = []
other_tags is_first (t ∷ ts) tag =
    if bytes_eq t tag then other_tags is_first ts tag
    else joint is_first ++ (t ++ other_tags false ts tag)

abbrev pub has_tag : List Text → Text → Bool
has_tag [] tag = false
has_tag (t ∷ ts) tag = bytes_eq t tag || has_tag ts tag

-- a link to the products of tags, with a tag in its title
abbrev pub tag_link : Text → Text → Text → Text → Text
tag_link collection label tag tags =
    codes "<a title=\"Show tag " ++ (tag ++ (codes "\" href=\"/collections/" ++ (collection
    ++ (codes "/" ++ (tags ++ (codes "\">" ++ (label ++ codes "</a>")))))))

-- `link_to_tag`: to the tag alone
abbrev pub link_to_tag_answer : Text → Datum → List Datum → Answer
link_to_tag_answer collection d args =
    Ok (text (tag_link collection (text_of d) (text_or [] args) (text_or [] args)))

-- `link_to_add_tag`: to the page's tags and this one
abbrev pub link_to_add_tag_answer : Text → List Text → Datum → List Datum → Answer
link_to_add_tag_answer collection tags d args =
    Ok (text (tag_link collection (text_of d) (text_or [] args) (with_tag tags (text_or [] args))))

-- `link_to_remove_tag`: to the page's tags but for this one
abbrev pub link_to_remove_tag_answer : Text → List Text → Datum → List Datum → Answer
link_to_remove_tag_answer collection tags d args =
    Ok (text (tag_link collection (text_of d) (text_or [] args)
    (other_tags true tags (text_or [] args))))

-- one of the page's tags, marked with a class
abbrev pub in_class_span : Text → Text → Text
in_class_span class tag =
    codes "<span class=\"" ++ (class ++ (codes "\">" ++ (tag ++ codes "</span>")))

-- `highlight_active_tag`: the class is `active` where none is given
-- What is none of the page's tags stays.
abbrev pub highlight_answer : List Text → Datum → List Datum → Answer
highlight_answer tags (text s) args =
    if has_tag tags s then Ok (text (in_class_span (text_or (codes "active") args) s)) else Ok
    (text s)
highlight_answer tags d args = Ok d

-- an address within the collection of a handle
abbrev pub within_handle : Text → Datum → Text
within_handle url handle = codes "/collections/" ++ (text_of handle ++ url)

abbrev pub within_found : Text → Option Datum → Text
within_found url (Some handle) = within_handle url handle
within_found url None = url

-- by the `handle` of the collection, where that is a map which has one
abbrev pub within : Text → Datum → Text
within url collection = within_found url (property (codes "handle") collection)

-- `within`
abbrev pub within_answer : Datum → List Datum → Answer
within_answer d [] = Ok (text (text_of d))
within_answer d (collection ∷ args) = Ok (text (within (text_of d) collection))
