-- What reading the next record gives.
--     ReadsOn remaining is_found old new      a record was read, or there is none
--     AreLinesOf, AreRowsOf, AreObjectsOf remaining reader source      all records of a reader are
--                                                                    still to come
--     AreRowsIn form remaining reader source      that, of a table in another form
use Rattle.std.specs.Prelude.{◌≡◌, Bool, true, false, List, ℕ, Option, IfSome, Ok, map}
use Rattle.std.specs.Prelude.{string_bytes}
use Rattle.csv.specs.Reading.{ReadRecord}
use Rattle.csv.specs.Records.{fields_of}
use Rattle.liquid_data.specs.TableForms.{plain_form}
use Rattle.liquid_data.specs.Lines.{FindsLine, HasBlankLinesAlone, lines_left}
use Rattle.liquid_data.specs.Lists.{ListSteps, list_left, list_step_at}
use Rattle.liquid_data.specs.Quotes.{bytes_left}
use Rattle.liquid_data.specs.Tables.{AreInForm, IsHeadIn, ReadsRows, reader_of}
use Rattle.liquid_data.specs.declared.form.TableForm.{TableForm}
use Rattle.liquid_data.specs.declared.lines.Lines.{Lines as LineReader}
use Rattle.liquid_data.specs.declared.list_objects.Place.TheVariants.{Front}
use Rattle.liquid_data.specs.declared.records.Source.{Source}
use Rattle.liquid_data.specs.declared.records.Source.TheVariants.{Lines, Objects, Rows}

-- of lines, the next one that isn't blank, or that there are blank ones alone
abbrev pub ReadsLine : {R : Type 0} → (R → Option (List ℕ)) → Bool → LineReader R →
    LineReader R → Type 0
ReadsLine remaining true old new = FindsLine (lines_left remaining old) (lines_left remaining new)
    new.is_left_out new.line.items
ReadsLine remaining false old new = IfSome (lines_left remaining old) HasBlankLinesAlone

-- of rows or objects, the next one; and the columns keep their names, and the cells their form
abbrev pub ReadsOn : {R : Type 0} → (R → Option (List ℕ)) → Bool → Source R → Source R → Type 0
ReadsOn remaining is_found (Lines old) (Lines new) = ReadsLine remaining is_found old new
ReadsOn remaining is_found (Rows old) (Rows new) = (new.names ≡ old.names)
    × (new.cells ≡ old.cells)
    × (ReadsRows (reader_of old) → ReadsRows (reader_of new)
    × ReadRecord (bytes_left remaining) (reader_of old) (reader_of new) is_found
    (fields_of new.row))
ReadsOn remaining is_found (Objects old) (Objects new) = IfSome (list_left remaining old)
    (λ text. ListSteps remaining is_found new (list_step_at old.place text))
ReadsOn remaining is_found _ _ = ⊥

abbrev pub AreLinesOf : {R : Type 0} → (R → Option (List ℕ)) → R → Source R → Type 0
AreLinesOf remaining reader (Lines lines) = lines_left remaining lines ≡ remaining reader
AreLinesOf remaining reader _ = ⊥

-- all of the list
abbrev pub AreObjectsOf : {R : Type 0} → (R → Option (List ℕ)) → R → Source R → Type 0
AreObjectsOf remaining reader (Objects objects) =
    (list_left remaining objects ≡ remaining reader) × (objects.place ≡ Front)
AreObjectsOf remaining reader _ = ⊥

-- the first row was read, and names the columns
abbrev pub AreRowsIn : {R : Type 0} → TableForm → (R → Option (List ℕ)) → R → Source R → Type 0
AreRowsIn form remaining reader (Rows rows) = ReadsRows (reader_of rows) × AreInForm form rows
    × IfSome (remaining reader)
    (λ text. IsHeadIn form text (Ok (map string_bytes rows.names.items)))
AreRowsIn form remaining reader _ = ⊥

abbrev pub AreRowsOf : {R : Type 0} → (R → Option (List ℕ)) → R → Source R → Type 0
AreRowsOf remaining reader source = AreRowsIn plain_form remaining reader source
