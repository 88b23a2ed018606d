-- What commands read.
--     called path      what a message calls a path
--     data_of_file path form text      the data of a file
--     with_input name more ps      data with more of it
--     with_value_given v form ps      data with a value of the command line
--     timed now ps      data with the name `now`, where a time is given and is one
use Rattle.std.specs.Prelude.{cond, codes, not, ◌&&◌, bytes_eq, Option, Some, None, Result, Ok, Err}
use Rattle.liquid_model.specs.Data.{Datum, Pairs, object, put}
use Rattle.liquid_model.specs.Texts.{Text}
use Rattle.liquid_model.specs.declared.error.ErrorKind.{ErrorKind}
use Rattle.liquid_data.specs.TomlData.{toml_document_data}
use Rattle.liquid_data.specs.Forms.{data_in_form, formed, put_all, text_in_form}
use Rattle.liquid_data.specs.Forms.{value_in_form, with_now}
use Rattle.liquid_data.specs.declared.forms.DataForm.{DataForm}
use Rattle.liquid_model.specs.Bytes.{open_brace}
use Rattle.liquid_model.specs.Words.{begins_with}
use Rattle.liquid_yaml.specs.Reading.{yaml_data}
use Rattle.liquid_commands.specs.Words.{GivenValue, has_ending, is_yaml}

abbrev pub called : Text → Text
called path = cond (bytes_eq path (codes "-")) (codes "standard input") path

-- YAML where the path ends so and no brace begins the text, and else JSON
abbrev pub data_of_other : Text → DataForm → Text → Result Pairs ErrorKind
data_of_other path form text = cond (is_yaml path && not (begins_with open_brace text))
    (formed form.dates (yaml_data text)) (data_in_form form text)

-- TOML where the path ends so
abbrev pub data_of_file : Text → DataForm → Text → Result Pairs ErrorKind
data_of_file path form text = cond (has_ending (codes ".toml") path)
    (formed form.dates (toml_document_data text)) (data_of_other path form text)

-- under a name where there is one, and else member by member
abbrev pub with_input : Option Text → Pairs → Pairs → Pairs
with_input None more ps = put_all more ps
with_input (Some name) more ps = put name (object more) ps

-- the value of JSON, or the text
abbrev pub value_given : GivenValue → DataForm → Result Datum ErrorKind
value_given v form = cond v.is_json (value_in_form form v.word) (Ok (text_in_form form v.word))

abbrev pub with_value_read : Text → Result Datum ErrorKind → Pairs → Result Pairs ErrorKind
with_value_read name (Ok d) ps = Ok (put name d ps)
with_value_read name (Err kind) ps = Err kind

-- in place of what stands under its name
abbrev pub with_value_given : GivenValue → DataForm → Pairs → Result Pairs ErrorKind
with_value_given v form ps = with_value_read v.name (value_given v form) ps

abbrev pub timed : Option Text → Pairs → Option Pairs
timed None ps = Some ps
timed (Some now) ps = with_now now ps
