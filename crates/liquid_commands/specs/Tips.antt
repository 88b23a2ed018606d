-- The options that are a way out of a fault.
--     tip_text tip      what is said of it
--     source_tip kind jekyll shopify decimals      for a fault of a template: the sets have what
--                                                  it lacks
--     page_tip kind missing      for a fault that ends a page
--     data_tip kind path decimals      for a fault of a file of data
--     no_file_tip path      where no file of data is at a path
--     checked_tip path      for a file that is checked as a template
--     value_tip kind      for a fault of a value of the command line
--     record_tip kind path decimals first      for a fault of a record that is read as JSON, and
--                                              is this first line
use Rattle.std.specs.Prelude.{Bool, true, false, cond, not, ◌&&◌, ◌||◌, codes, Option, Some, None}
use Rattle.std.specs.Prelude.{[], ◌∷◌, option_and_then}
use Rattle.liquid_core.specs.declared.missing_value.Missing.{Missing}
use Rattle.liquid_core.specs.declared.missing_value.Missing.TheVariants.{IsFault, IsNil}
use Rattle.liquid_model.specs.declared.error.ErrorKind.{ErrorKind}
use Rattle.liquid_model.specs.declared.error.ErrorKind.TheVariants.{UnknownTag, UnknownFilter}
use Rattle.liquid_model.specs.declared.error.ErrorKind.TheVariants.{UnknownVariable, UnknownPartial}
use Rattle.liquid_model.specs.declared.error.ErrorKind.TheVariants.{Float, InvalidInput}
use Rattle.liquid_commands.specs.Words.{CommandWord, has_ending, is_template_name}
use Rattle.liquid_commands.specs.RecordWords.{guessed_format, is_records_name}
use Rattle.liquid_commands.specs.Words.{is_yaml, split_at_equals}
use Rattle.liquid_commands.specs.declared.record_words.RecordsFormat.{RecordsFormat}
use Rattle.liquid_commands.specs.declared.record_words.RecordsFormat.TheVariants as format
use Rattle.liquid_commands.specs.declared.record_words.RecordsFormat.TheVariants.{Lines}
use Rattle.liquid_commands.specs.declared.record_words.RecordsFormat.TheVariants.{List as Items}
use Rattle.liquid_commands.specs.declared.option_tips.Tip.{Tip}
use Rattle.liquid_commands.specs.declared.option_tips.Tip.TheVariants.{Decimals, Jekyll, Shopify}
use Rattle.liquid_commands.specs.declared.option_tips.Tip.TheVariants.{MissingIsNil, Partials}
use Rattle.liquid_commands.specs.declared.option_tips.Tip.TheVariants.{DecimalsAsTexts, PartOfYaml}
use Rattle.liquid_commands.specs.declared.option_tips.Tip.TheVariants.{TextValue, Table}
use Rattle.liquid_commands.specs.declared.option_tips.Tip.TheVariants.{List, OneLine, Records}
use Rattle.liquid_commands.specs.declared.option_tips.Tip.TheVariants.{TemplateFirst, Define}
use Rattle.liquid_commands.specs.declared.option_tips.Tip.TheVariants.{DataFile, Dates}

abbrev pub tip_text : Tip → CommandWord
tip_text Jekyll = codes "--filters jekyll has it"
tip_text Shopify = codes "--filters shopify has it"
tip_text Decimals = codes "--filters decimals has it"
tip_text MissingIsNil = codes "--missing nil goes on with nil"
tip_text Partials = codes "-p NAME=FILE gives a partial, and -p DIR each file of a folder"
tip_text DecimalsAsTexts = codes "--decimals text reads such a number as a text"
tip_text PartOfYaml = codes "a part of YAML is read; JSON and TOML are read whole"
tip_text TextValue = codes "-D NAME=TEXT gives a text, without `:`"
tip_text Table = codes "--records-format csv reads a table"
tip_text List = codes "--records-format json reads a list"
tip_text OneLine =
    codes "a record is one line, with no comma after it; a JSON list may go over lines"
tip_text Records = codes "bikleinu merge reads tables and JSON lines, as its records"
tip_text TemplateFirst = codes "the template comes first, and its data or records after it"
tip_text Define = codes "-D NAME=TEXT gives a value, and -D NAME:=JSON one of another kind"
tip_text DataFile = codes "-d FILE gives data; each PATH is a template"
tip_text Dates = codes "--dates reads a date as 2026-04-05, with or without a time"

-- the first of the sets that has it
abbrev pub set_tip : Bool → Bool → Bool → Option Tip
set_tip true shopify decimals = Some Jekyll
set_tip false true decimals = Some Shopify
set_tip false false true = Some Decimals
set_tip false false false = None

-- a tag or a filter that isn't known may be one of a set
abbrev pub source_tip : ErrorKind → Bool → Bool → Bool → Option Tip
source_tip UnknownTag jekyll shopify decimals = set_tip jekyll shopify decimals
source_tip UnknownFilter jekyll shopify decimals = set_tip jekyll shopify decimals
source_tip kind jekyll shopify decimals = None

-- what is missing may be nil, and a partial may be given
abbrev pub page_tip : ErrorKind → Missing → Option Tip
page_tip UnknownVariable IsFault = Some MissingIsNil
page_tip UnknownVariable IsNil = None
page_tip UnknownPartial missing = Some Partials
page_tip kind missing = None

abbrev pub is_float_kind : ErrorKind → Bool
is_float_kind Float = true
is_float_kind kind = false

-- a template or records may stand in the place of data that is no JSON
abbrev pub exchanged_tip : ErrorKind → CommandWord → Option Tip
exchanged_tip InvalidInput path = cond (is_template_name path) (Some TemplateFirst)
    (cond (is_records_name path) (Some Records) None)
exchanged_tip kind path = None

-- a number that isn't whole may be a text, but in TOML; and not all of YAML is read
abbrev pub data_tip : ErrorKind → CommandWord → Bool → Option Tip
data_tip kind path decimals =
    cond (is_float_kind kind && (not (has_ending (codes ".toml") path) && not decimals))
    (Some DecimalsAsTexts) (cond (is_yaml path) (Some PartOfYaml) (exchanged_tip kind path))

-- a word that gives a name a value
abbrev pub tip_if_split : {A : Type 0} → Option A → Option Tip
tip_if_split None = None
tip_if_split (Some parts) = Some Define

abbrev pub no_file_tip : CommandWord → Option Tip
no_file_tip path = tip_if_split (split_at_equals path)

-- JSON and TOML are no templates
abbrev pub checked_tip : CommandWord → Option Tip
checked_tip path = cond (has_ending (codes ".json") path || has_ending (codes ".toml") path)
    (Some DataFile) None

-- a number may be a text, and what is no JSON too
abbrev pub value_tip : ErrorKind → Option Tip
value_tip Float = Some DecimalsAsTexts
value_tip InvalidInput = Some TextValue
value_tip kind = None

-- whether a line ends as an object does
abbrev pub ends_in_brace : CommandWord → Bool
ends_in_brace line = has_ending (125 ∷ 10 ∷ []) line
    || (has_ending (125 ∷ []) line || has_ending (125 ∷ 13 ∷ 10 ∷ []) line)

-- by how the records are written that begin so
abbrev pub format_tip : RecordsFormat → CommandWord → Option Tip
format_tip Lines line = cond (ends_in_brace line) None (Some OneLine)
format_tip Items line = Some List
format_tip format.Table line = Some Table

abbrev pub first_line_tip : CommandWord → CommandWord → Option Tip
first_line_tip path line =
    cond (is_template_name path) (Some TemplateFirst) (format_tip (guessed_format line) line)

-- a number may be a text, and a first line that is no JSON that of a template, a table or a list,
-- or not a whole record
abbrev pub record_tip : ErrorKind → CommandWord → Bool → Option CommandWord → Option Tip
record_tip Float path decimals first = cond decimals None (Some DecimalsAsTexts)
record_tip InvalidInput path decimals first = option_and_then (first_line_tip path) first
record_tip kind path decimals first = None
