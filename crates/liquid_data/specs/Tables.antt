-- The rows of a table, as they come out of a reader.
--     ReadsRows reader      each further read gives one row of it, of any length, as it stands
--                           there
--     reader_of rows      the reader that gives the rows
--     stray_line rows      the line of the first text after a closing quote, of what was read
--     IsHeadIn form text naming      the first row of a text, where it has one, names these
--                                    columns, or has this fault
--     IsHead text naming      that, with commas between cells
--     IfFaulted result P      what holds of the fault that the first row has
use Rattle.std.specs.Prelude.{◌≡◌, true, ⊤, ℕ, List, [], Option, Result, Ok, Err, IfSome}
use Rattle.csv.specs.Machine.{next_record}
use Rattle.csv.specs.Reading.{Ready, is_flexible, reader_config, reader_source, reader_trim}
use Rattle.csv.specs.Reading.{strip_bom}
use Rattle.csv.specs.declared.parser.State.TheVariants as state
use Rattle.csv.specs.declared.reader.Reader.{Reader}
use Rattle.csv.specs.declared.reader.Trim.TheVariants as trim
use Rattle.liquid_model.specs.Texts.{Text}
use Rattle.liquid_data.specs.TableForms.{plain_form, table_config}
use Rattle.liquid_data.specs.Heads.{column_names}
use Rattle.liquid_data.specs.declared.csv_rows.HeadStop.{HeadStop}
use Rattle.liquid_data.specs.declared.csv_rows.HeadStop.TheVariants.{Faulted}
use Rattle.liquid_data.specs.declared.csv_rows.Rows.{Rows}
use Rattle.liquid_data.specs.declared.form.TableForm.{TableForm}
use Rattle.liquid_data.specs.declared.head.HeadFault.{HeadFault}
use Rattle.liquid_data.specs.declared.quotes.QuoteReader.{QuoteReader}

abbrev pub ReadsRows : {R : Type 0} → Reader R → Type 0
ReadsRows reader = Ready reader × (reader_trim reader ≡ trim.None) × (is_flexible reader ≡ true)

abbrev pub reader_of : {R : Type 0} → Rows R → Reader (QuoteReader R)
reader_of rows = rows.reader

abbrev pub stray_line : {R : Type 0} → Rows R → Option ℕ
stray_line rows = (reader_source (reader_of rows)).quotes.stray

-- the rows are parted into cells, and the cells are read, as the form says
abbrev pub AreInForm : {R : Type 0} → TableForm → Rows R → Type 0
AreInForm form rows = (reader_config (reader_of rows) ≡ table_config form)
    × (rows.cells ≡ form.cells)

-- a mark of the byte order before it is no part of it
abbrev pub IsHeadIn : TableForm → List ℕ → Result (List Text) HeadFault → Type 0
IsHeadIn form bytes naming =
    IfSome (next_record (table_config form) state.StartRecord [] [] (strip_bom bytes))
    (λ row. column_names form.names row.0 ≡ naming)

abbrev pub IsHead : List ℕ → Result (List Text) HeadFault → Type 0
IsHead bytes naming = IsHeadIn plain_form bytes naming

abbrev pub IfFaulted : {A : Type 0} → Result A HeadStop → (HeadFault → Type 0) → Type 0
IfFaulted (Err (Faulted fault)) P = P fault
IfFaulted _ P = ⊤
