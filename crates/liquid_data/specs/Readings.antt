-- What the data of a record is read as.
--     line_reading form line      of a line: its text as it stands, or the data in another form
--     row_reading dates row      of a row
--     reading_of form source      of the line or the row that was read last
--     column_list source      the names of the columns, where there are some
--     are_lines source, stray_in source      whether each record is a line; the line of the first
--                                            text after a closing quote in a table
use Rattle.liquid_data.specs.Tables.{stray_line}
use Rattle.std.specs.Prelude.{Bool, true, false, ◌||◌, cond, List, ℕ, [], map, Result, Ok, Err}
use Rattle.std.specs.Prelude.{Option, Some, None, String, string_bytes}
use Rattle.std.specs.Str.{is_utf8}
use Rattle.std.specs.declared.alloc.Global.{Global}
use Rattle.csv.specs.Records.{fields_of}
use Rattle.liquid_data.specs.Forms.{data_in_form, with_dates_spelled}
use Rattle.liquid_data.specs.declared.forms.DataForm.{DataForm}
use Rattle.liquid_model.specs.Data.{Pairs}
use Rattle.liquid_model.specs.Texts.{Text}
use Rattle.liquid_model.specs.View.{pairs_view}
use Rattle.liquid_model.specs.declared.error.ErrorKind.{ErrorKind}
use Rattle.liquid_data.specs.Lists.{fault_at}
use Rattle.liquid_data.specs.Rows.{row_record}
use Rattle.liquid_data.specs.declared.list_objects.ListFault.{ListFault}
use Rattle.liquid_data.specs.declared.record.RowFault.{RowFault}
use Rattle.liquid_data.specs.declared.records.RecordData.{RecordData}
use Rattle.liquid_data.specs.declared.records.RecordData.TheVariants as given
use Rattle.liquid_data.specs.declared.records.RecordFault.{RecordFault}
use Rattle.liquid_data.specs.declared.records.RecordFault.TheVariants as fault
use Rattle.liquid_data.specs.declared.records.Source.{Source}
use Rattle.liquid_data.specs.declared.records.Source.TheVariants as source

-- a text of JSON, data, or why there is none
pub data RecordReading : Type 0 where
  text_alone : Text → RecordReading
  data_read : Pairs → RecordReading
  not_utf8 : RecordReading
  no_row : RowFault → RecordReading
  no_item : ListFault → RecordReading
  no_data : ErrorKind → RecordReading

abbrev pub formed_reading : Result Pairs ErrorKind → RecordReading
formed_reading (Ok ps) = data_read ps
formed_reading (Err kind) = no_data kind

-- a text is read here only where the form asks for something else than what stands there
abbrev pub text_reading : DataForm → Text → RecordReading
text_reading form s =
    cond (form.decimals_as_texts || form.dates) (formed_reading (data_in_form form s))
    (text_alone s)

abbrev pub line_reading : DataForm → List ℕ → RecordReading
line_reading form line = cond (is_utf8 line) (text_reading form line) not_utf8

abbrev pub row_reading : Bool → Result Pairs RowFault → RecordReading
row_reading dates (Ok ps) = data_read (with_dates_spelled dates ps)
row_reading dates (Err fault) = no_row fault

-- of an object of a list, unless the list has a fault there
abbrev pub object_reading : DataForm → Option ListFault → List ℕ → RecordReading
object_reading form None text = line_reading form text
object_reading form (Some fault) text = no_item fault

abbrev pub reading_of : {R : Type 0} → DataForm → Source R → RecordReading
reading_of form (source.Lines lines) = line_reading form lines.line.items
reading_of form (source.Rows rows) =
    row_reading form.dates
    (row_record rows.unclosed rows.cells (map string_bytes rows.names.items)
    (fields_of rows.row))
reading_of form (source.Objects objects) =
    object_reading form (fault_at objects.place) objects.object.items

-- the text of a line that is UTF-8, and of any other none
abbrev pub line_text : List ℕ → Text
line_text line = cond (is_utf8 line) line []

-- the text of a line or of an object, as above; none of a row
abbrev pub text_read : {R : Type 0} → Source R → Text
text_read (source.Lines lines) = line_text lines.line.items
text_read (source.Rows rows) = []
text_read (source.Objects objects) = line_text objects.object.items

abbrev pub are_lines : {R : Type 0} → Source R → Bool
are_lines (source.Lines lines) = true
are_lines _ = false

abbrev pub stray_in : {R : Type 0} → Source R → Option ℕ
stray_in (source.Rows rows) = stray_line rows
stray_in _ = None

abbrev pub column_list : {R : Type 0} → Source R → List (String Global)
column_list (source.Lines lines) = []
column_list (source.Rows rows) = rows.names.items
column_list (source.Objects objects) = []

-- ---- as contracts see them

abbrev pub reading_view : Result RecordData RecordFault → RecordReading
reading_view (Ok (given.Text s)) = text_alone s.now
reading_view (Ok (given.Data d)) = data_read (pairs_view d.entries)
reading_view (Err fault.NotUtf8) = not_utf8
reading_view (Err (fault.NoRow why)) = no_row why
reading_view (Err (fault.NoItem why)) = no_item why
reading_view (Err (fault.NoData e)) = no_data e.kind
