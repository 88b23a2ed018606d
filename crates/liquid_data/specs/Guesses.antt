-- The byte that parts the cells of a table, as its first row has it.
--     guessed_delimiter text      the byte
--     first_cells delimiter text      how many cells the first row has with this byte
use Rattle.std.specs.Prelude.{ℕ, cond, nat_lt, length, List, [], Option, Some, None}
use Rattle.csv.specs.Machine.{Read, next_record}
use Rattle.csv.specs.Reading.{strip_bom}
use Rattle.csv.specs.declared.parser.State.TheVariants as state
use Rattle.liquid_data.specs.TableForms.{delimited}

abbrev pub cells_read : Option Read → ℕ
cells_read None = 0
cells_read (Some row) = length row.0

-- none where there is no row
abbrev pub first_cells : ℕ → List ℕ → ℕ
first_cells delimiter text =
    cells_read (next_record (delimited delimiter) state.StartRecord [] [] (strip_bom text))

-- the first of two bytes, unless the row has more cells with the second
abbrev pub parts_better : List ℕ → ℕ → ℕ → ℕ
parts_better text first second =
    cond (nat_lt (first_cells first text) (first_cells second text)) second first

-- of a comma, a semicolon, a tab and a bar the first with which the row has the most cells
abbrev pub guessed_delimiter : List ℕ → ℕ
guessed_delimiter text =
    parts_better text (parts_better text (parts_better text 44 59) 9) 124
