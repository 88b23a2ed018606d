-- The filters that make a text of the words of their input.
use Rattle.std.specs.Prelude.{Ok}
use Rattle.liquid_model.specs.Data.{Datum, nil, text, text_of}
use Rattle.liquid_model.specs.Arguments.{Answer}
use Rattle.liquid_shopify_host_filters.specs.Words.{worded_text}
use Rattle.liquid_shopify_host_filters.specs.declared.words.Wording.TheVariants.{Handle, Camel}
use Rattle.liquid_shopify_host_filters.specs.declared.words.Wording.TheVariants.{Squish}

-- `handle` and `handleize`
abbrev pub handle_answer : Datum → Answer
handle_answer d = Ok (text (worded_text Handle (text_of d)))

-- `camelize`
abbrev pub camelize_answer : Datum → Answer
camelize_answer d = Ok (text (worded_text Camel (text_of d)))

-- `squish`; nil stays nil
abbrev pub squish_answer : Datum → Answer
squish_answer nil = Ok nil
squish_answer d = Ok (text (worded_text Squish (text_of d)))
