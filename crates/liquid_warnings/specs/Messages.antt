-- What warnings say.
--     lack_message words name similar   of a name that nothing has, with a similar one if any
--     value_message path kind      of a loop over what is no list and no map
use Rattle.std.specs.Prelude.{ℕ, ◌++◌, [], ◌∷◌, Option, Some, None, codes}
use Rattle.std.specs.Fmt.{decimal}
use Rattle.liquid_model.specs.Data.{Datum, array, number, object, text}
use Rattle.liquid_model.specs.Quotes.{quotation}
use Rattle.liquid_model.specs.Texts.{Text}

abbrev pub lack_message : Text → Text → Option Text → Text
lack_message words name None = words ++ (codes " `" ++ (quotation name ++ codes "`"))
lack_message words name (Some similar) = words ++ (codes " `" ++ (quotation name
    ++ (codes "`; did you mean `" ++ (quotation similar ++ codes "`?"))))

abbrev pub unused_message : Text → Text
unused_message name = codes "`" ++ (quotation name ++ codes "` is set here, and nothing reads it")

abbrev pub escaped_twice_message : Text → Text
escaped_twice_message name = codes "the outputs in the captured `" ++ (quotation name
    ++ codes "` are escaped already; end this one with `| raw`")

abbrev pub recursive_message : Text → Text
recursive_message name = codes "the partial `" ++ (quotation name
    ++ codes "` runs itself from here; a run ends where partials are 32 deep")

abbrev pub else_if_message : Text
else_if_message = codes "what stands after `else` isn't read; for a condition write `elsif`"

abbrev pub unescaped_message : Text
unescaped_message = codes "a quote in this value ends the attribute; write `| escape`"

abbrev pub unused_partial_message : Text
unused_partial_message = codes "none of the templates runs this partial"

abbrev pub clock_message : Text → Text
clock_message word = codes "`'" ++ (word ++ (codes "' | date` gives `" ++ (word
    ++ codes "`, since there is no clock; give the time as data")))

abbrev pub colours_message : Text
colours_message =
    codes "`highlight` writes code without colours, as Jekyll does with `highlighter: none`"

-- what a literal or a value of the data is
abbrev pub kind_word : Datum → Text
kind_word (text s) = codes "a text"
kind_word (number z) = codes "a number"
kind_word (array ds) = codes "a list"
kind_word (object ps) = codes "a map"
kind_word _ = codes "a truth value"

abbrev pub value_message : Text → Text → Text
value_message path kind = path ++ (codes " is " ++ (kind
    ++ codes ", and a loop goes over a list or a map"))

abbrev pub in_data : Text → Text
in_data path = codes "`" ++ (quotation path ++ codes "` in the data")

abbrev pub past_end : Text → ℕ → Text
past_end path count = codes "`" ++ (quotation path ++ (codes "` has " ++ (decimal count ++ codes
    " items in the data; after `offset` the `limit` goes past them, and gives nil")))

abbrev pub no_date : Text → Text → Text
no_date path found = codes "`" ++ (quotation path ++ (codes "` is `" ++ (quotation found
    ++ codes "` in the data, which isn't read as a date")))

abbrev pub number_text : Text → Text → Text
number_text path found = codes "`" ++ (quotation path ++ (codes "` is the text `"
    ++ (quotation found ++ codes "` in the data, and no number: such a comparison never holds")))

abbrev pub truth_text : Text → Text → Text
truth_text path found = codes "`" ++ (quotation path ++ (codes "` is the text `"
    ++ (quotation found
    ++ codes "` in the data, and no truth value: such a comparison never holds")))

abbrev pub no_text : Text → Text → Text
no_text path kind = codes "`" ++ (quotation path ++ (codes "` is " ++ (kind
    ++ codes " in the data, and no text: such a comparison never holds")))

-- what a value has to be to compare with another
abbrev pub no_other : Text → Text → Text → Text
no_other path kind other = codes "`" ++ (quotation path ++ (codes "` is " ++ (kind
    ++ (codes " in the data, and no " ++ (other ++ codes ": such a comparison never holds")))))

abbrev pub whole_map_message : Text → Text
whole_map_message path = codes "`" ++ (quotation path ++ (codes
    "` is a map or a list of maps in the data, and is shown with all that it has; name a part, as `"
    ++ (quotation path ++ codes ".name`")))

abbrev pub no_key_message : Text → Text
no_key_message path = codes "`" ++ (quotation path ++ (codes
    "` is a list in the data, which has no such key; take each item by `for`, or one as `"
    ++ (quotation path ++ codes "[0]`")))

abbrev pub number_date : Text → Text
number_date path = codes "`" ++ (quotation path
    ++ codes "` is a number in the data, which `date` prints as it is")

abbrev pub false_message : Text → Text
false_message path = codes "`" ++ (quotation path
    ++ codes "` is `false` in the data, which `default` replaces too; test it by `if`")

abbrev pub size_message : Text → Text
size_message path = codes "`" ++ (quotation path
    ++ (codes ".size` is a number, and 0 counts as true too; write `" ++ (quotation path
    ++ codes ".size > 0`")))

abbrev pub pattern_message : Text → Text
pattern_message pattern = codes "`" ++ (quotation pattern
    ++ codes "` has no `%`, so `date` prints it as it is: write it as `%d.%m.%Y`")

abbrev pub sure_message : Text
sure_message = codes
    "a text or a number by itself counts as true: compare with each, as `a == 1 or a == 2`"

-- what looks false
abbrev pub text_words : Text → Text
text_words [] = codes "an empty text"
text_words (b ∷ bs) = codes "the text `" ++ (quotation (b ∷ bs) ++ codes "`")

abbrev pub false_words : Datum → Text
false_words (text s) = text_words s
false_words (number z) = codes "0"
false_words (array ds) = codes "an empty list"
false_words d = codes "an empty map"

abbrev pub always_true : Text → Text → Text
always_true path found = codes "`" ++ (quotation path ++ (codes "` is " ++ (found ++ codes
    " in the data, which counts as true: compare it, or its `size`")))

abbrev pub item_words : Text → Text
item_words list = codes "an item of `" ++ (quotation list ++ codes "` has no")

abbrev pub not_given : Text → Text
not_given name = codes "no `render` of this partial gives `" ++ (quotation name
    ++ (codes "`, so it is nil here; write `" ++ (quotation name ++ (codes ": "
    ++ (quotation name ++ codes "` there")))))

abbrev pub stray_message : Text → Text
stray_message name = codes "this `" ++ (name ++ codes "` stands in no loop, and ends the page here")

-- a text that a tag sets, and that a condition takes for something else
abbrev pub text_as : Text → Text → Text
text_as name other = codes "a tag sets `" ++ (quotation name ++ (codes
    "` to a text, which is no " ++ (other ++ codes ": such a comparison never holds")))

abbrev pub captured_true : Text → Text
captured_true name = codes "the captured `" ++ (quotation name
    ++ (codes "` counts as true, also empty; write `" ++ (quotation name ++ codes " != ''`")))

abbrev pub quoted_message : Text → Text
quoted_message name = codes "`'" ++ (quotation name
    ++ codes "'` is a text, and the data has a value of that name; write it without quotes")

abbrev pub front_matter_message : Text
front_matter_message = codes
    "front matter isn't read here, and is printed as text; give its values as data"

-- ---- placeholders of other languages

abbrev pub foreign_value : Text → Text → Text
foreign_value found path = codes "`" ++ (quotation found
    ++ (codes "` is text here; the value is written `{{ " ++ (quotation path ++ codes " }}`")))

abbrev pub foreign_tag : Text → Text
foreign_tag opener = codes "what begins with `" ++ (opener
    ++ codes "` is text here; a tag is written `{% if a %}`")

abbrev pub foreign_comment : Text
foreign_comment = codes
    "this is text here; a comment is written `{% comment %}text{% endcomment %}`"

pub data IsForeignMessage : Text → Type 0 where
  of_value : (found path : Text) → IsForeignMessage (foreign_value found path)
  of_tag : (opener : Text) → IsForeignMessage (foreign_tag opener)
  of_comment : IsForeignMessage foreign_comment
