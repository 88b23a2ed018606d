-- The filters that write addresses.
use Rattle.std.specs.Prelude.{List, ◌++◌, Ok, codes}
use Rattle.liquid_model.specs.Data.{Datum, text, text_of}
use Rattle.liquid_model.specs.Texts.{Text}
use Rattle.liquid_model.specs.Arguments.{Answer}
use Rattle.liquid_shopify_host_filters.specs.Words.{worded_text}
use Rattle.liquid_shopify_host_filters.specs.declared.words.Wording.TheVariants.{Handle}

-- `asset_url` and its like: a file's name after the prefix of its folder
abbrev pub prefixed_answer : Text → Datum → Answer
prefixed_answer prefix d = Ok (text (prefix ++ text_of d))

-- the address of the collection whose handle a title gives
abbrev pub collection_url : Text → Text
collection_url title = codes "/collections/" ++ worded_text Handle title

-- `url_for_vendor` and `url_for_type`
abbrev pub url_for_answer : Datum → Answer
url_for_answer d = Ok (text (collection_url (text_of d)))
