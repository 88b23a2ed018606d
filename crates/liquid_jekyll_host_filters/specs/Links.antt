-- The filters of Jekyll's tags `link` and `post_url`: the URL of a page, a file or a post of the
-- site, by its path. The input counts for nothing, the first argument is the tag's markup, and the
-- others are the lists in which the page is looked for.
use Rattle.std.specs.Prelude.{ℕ, Bool, false, not, ◌||◌, ◌&&◌, ◌==◌, nat_eq, bytes_eq, List, []}
use Rattle.std.specs.Prelude.{◌∷◌, length, take, drop, ◌-◌, Option, Some, None, Err, codes}
use Rattle.std.specs.Prelude.{if◌then◌else◌}
use Rattle.std.specs.List.{starts_with, suffix_len}
use Rattle.std.specs.Option.{option_and_then}
use Rattle.liquid_model.specs.Data.{Datum, array, text, text_of}
use Rattle.liquid_model.specs.Lists.{list_of}
use Rattle.liquid_model.specs.Texts.{Text}
use Rattle.liquid_model.specs.Arguments.{Answer}
use Rattle.liquid_model.specs.declared.error.ErrorKind.TheVariants.{InvalidArgument}
use Rattle.liquid_jekyll_host_filters.specs.Highlight.{ruby_stripped}
use Rattle.liquid_jekyll_host_filters.specs.Properties.{map_member}
use Rattle.liquid_jekyll_host_filters.specs.Urls.{site_url}
use Rattle.liquid_jekyll_host_filters.specs.declared.links.Sought.{Sought}
use Rattle.liquid_jekyll_host_filters.specs.declared.links.Sought.TheVariants.{Page, Post}

-- ---- a page, a file or a post, as Jekyll gives it to templates

-- the text that stands at the name, or none
abbrev pub text_or_empty : Datum → Text
text_or_empty (text s) = s
text_or_empty d = []

abbrev pub member_text_or_none : Text → Datum → Text
member_text_or_none name d = text_or_empty (map_member name d)

-- the first text that isn't empty, or else the other
abbrev pub or_text : Text → Text → Text
or_text [] t = t
or_text (b ∷ s) t = b ∷ s

-- where it stands in the folder of the site
abbrev pub item_path : Datum → Text
item_path d = or_text (member_text_or_none (codes "relative_path") d)
    (member_text_or_none (codes "path") d)

-- its URL; a file that has none stays where it stands
abbrev pub item_url : Datum → Text
item_url d = or_text (member_text_or_none (codes "url") d) (item_path d)

-- ---- which of them is meant

-- the path, which may have a slash before it that the markup hasn't
abbrev pub is_page_at : Text → Text → Bool
is_page_at sought [] = false
is_page_at sought (b ∷ p) = bytes_eq (b ∷ p) sought || (b == 47 && bytes_eq p sought)

-- what stands after a text at the front
abbrev pub past_front : Text → Text → Option Text
past_front front s = if starts_with nat_eq s front then Some (drop (length front) s) else None

-- a dot, and after it another byte
abbrev pub begins_extension : Text → Bool
begins_extension (b ∷ c ∷ s) = b == 46 && not (c == 46)
begins_extension s = false

abbrev pub is_extension : Option Text → Bool
is_extension None = false
is_extension (Some s) = begins_extension s

-- the two folders, one in the other, the name, and an extension
abbrev pub is_file : Text → Text → Text → Text → Bool
is_file outer inner name p =
    is_extension (option_and_then (past_front name)
    (option_and_then (past_front inner) (past_front outer p)))

-- a post of the name in the folder, below `_posts` or above it
abbrev pub is_post_at : Text → Text → Text → Bool
is_post_at folder name p =
    is_file (codes "_posts/") folder name p || is_file folder (codes "_posts/") name p

abbrev pub is_sought : Sought → Text → Bool
is_sought (Page path) = is_page_at path.now
is_sought (Post folder name) = is_post_at folder.now name.now

-- ---- the search

abbrev pub first_meant : (Text → Bool) → List Datum → Option Datum
first_meant meant [] = None
first_meant meant (d ∷ ds) = if meant (item_path d) then Some d else first_meant meant ds

-- what is no list has no items
abbrev pub meant_in : (Text → Bool) → Datum → Option Datum
meant_in meant (array ds) = first_meant meant (list_of ds)
meant_in meant d = None

abbrev pub or_first : Option Datum → Option Datum → Option Datum
or_first None o = o
or_first (Some d) o = Some d

-- list after list
abbrev pub first_in : (Text → Bool) → List Datum → Option Datum
first_in meant [] = None
first_in meant (d ∷ ds) = or_first (meant_in meant d) (first_in meant ds)

-- ---- the answers

-- its URL under the base path of the site
abbrev pub led_to : Text → Option Datum → Answer
led_to base None = Err InvalidArgument
led_to base (Some d) = site_url [] base (text (item_url d))

abbrev pub in_file_name : ℕ → Bool
in_file_name b = not (b == 47)

-- how many bytes stand before the name that a path ends with
abbrev pub folder_len : Text → ℕ
folder_len s = length s - suffix_len in_file_name s

abbrev pub without_first_slash : Text → Text
without_first_slash [] = []
without_first_slash (b ∷ s) = if b == 47 then s else b ∷ s

abbrev pub post_named : Text → Text → Bool
post_named s = is_post_at (take (folder_len s) s) (drop (folder_len s) s)

-- the markup without white space and zero bytes at its ends
abbrev pub markup_of : Datum → Text
markup_of d = ruby_stripped (text_of d)

abbrev pub page_url : Text → Datum → List Datum → Answer
page_url base markup lists = led_to base (first_in (is_page_at (markup_of markup)) lists)

abbrev pub named_post_url : Text → Datum → List Datum → Answer
named_post_url base markup lists =
    led_to base (first_in (post_named (without_first_slash (markup_of markup))) lists)

-- `link`
abbrev pub link_answer : Text → Datum → List Datum → Answer
link_answer base d [] = Err InvalidArgument
link_answer base d (markup ∷ lists) = page_url base markup lists

-- `post_url`
abbrev pub post_url_answer : Text → Datum → List Datum → Answer
post_url_answer base d [] = Err InvalidArgument
post_url_answer base d (markup ∷ lists) = named_post_url base markup lists
