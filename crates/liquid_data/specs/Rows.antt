-- The records that rows are.
--     record_in form names cells      the data of a row, or why it is no record
--     record_of names cells      that data, where each cell is a text
--     row_record unclosed form names cells      the data of a row that a quote may end
use Rattle.std.specs.Prelude.{ℕ, ◌==◌, cond, length, List, [], ◌∷◌, ◌++◌, codes, Option, Some, None}
use Rattle.std.specs.Prelude.{Result, Ok, Err, String}
use Rattle.std.specs.BTreeMap.{BTreeMap}
use Rattle.std.specs.Fmt.{decimal}
use Rattle.std.specs.declared.alloc.Global.{Global}
use Rattle.liquid_model.specs.Data.{Pairs, no_pairs, put}
use Rattle.liquid_model.specs.Texts.{Text}
use Rattle.liquid_model.specs.View.{pairs_view}
use Rattle.liquid_model.specs.declared.value.Value.{Value}
use Rattle.liquid_data.specs.Cells.{cell_datum, cell_read, one_more}
use Rattle.liquid_data.specs.declared.form.CellForm.{CellForm}
use Rattle.liquid_data.specs.declared.form.CellForm.TheVariants.{Texts}
use Rattle.liquid_data.specs.declared.record.RowFault.{RowFault}
use Rattle.liquid_data.specs.declared.record.RowFault.TheVariants.{Cells, NotUtf8, Unclosed}

-- one more value, where the cell of a column is a text
abbrev pub with_cell : CellForm → ℕ → Result Pairs RowFault → Text → Result Text ℕ →
    Result Pairs RowFault
with_cell form column (Err fault) name cell = Err fault
with_cell form column (Ok found) name (Err byte) = Err (NotUtf8 column byte)
with_cell form column (Ok found) name (Ok cell) = Ok (put name (cell_datum form cell) found)

-- each cell from a column on under its name, after what was found
abbrev pub cells_under : CellForm → ℕ → Result Pairs RowFault → List Text → List Text →
    Result Pairs RowFault
cells_under form column (Err fault) names cells = Err fault
cells_under form column (Ok found) [] cells = Ok found
cells_under form column (Ok found) (name ∷ names) [] = Ok found
cells_under form column (Ok found) (name ∷ names) (cell ∷ cells) =
    cells_under form (one_more column) (with_cell form column (Ok found) name (cell_read cell))
    names cells

-- a row of another length than the first is no record
abbrev pub record_in : CellForm → List Text → List Text → Result Pairs RowFault
record_in form names cells = cond (length cells == length names)
    (cells_under form 1 (Ok no_pairs) names cells)
    (Err (Cells (length cells) (length names)))

abbrev pub record_of : List Text → List Text → Result Pairs RowFault
record_of names cells = record_in Texts names cells

-- nor is one that a quote ends which is never closed
abbrev pub row_record : Option ℕ → CellForm → List Text → List Text → Result Pairs RowFault
row_record None form names cells = record_in form names cells
row_record (Some line) form names cells = Err (Unclosed line)

abbrev pub row_view : Result (BTreeMap (String Global) Value) RowFault → Result Pairs RowFault
row_view (Ok found) = Ok (pairs_view found.entries)
row_view (Err fault) = Err fault

-- ---- what the message says of a fault

-- a row of one cell, and a table of one column, in their own words
abbrev pub cells_text : ℕ → ℕ → Text
cells_text found wanted =
    cond (found == 1) (codes "it has 1 cell, and the first row names " ++ (decimal wanted
    ++ codes " columns"))
    (cond (wanted == 1) (codes "it has " ++ (decimal found
    ++ codes " cells, and the first row names 1 column"))
    (codes "it has " ++ (decimal found ++ (codes " cells, and the first row names "
    ++ (decimal wanted ++ codes " columns")))))

abbrev pub byte_text : ℕ → ℕ → Text
byte_text column byte = codes "the cell of column " ++ (decimal column
    ++ (codes " isn't UTF-8 from its byte " ++ (decimal byte
    ++ codes " on; save the table as UTF-8")))

abbrev pub quote_text : ℕ → Text
quote_text line = codes "the quote that opens in line " ++ (decimal line
    ++ codes " is never closed")

abbrev pub row_fault_text : RowFault → Text
row_fault_text (NotUtf8 column byte) = byte_text column byte
row_fault_text (Cells found wanted) = cells_text found wanted
row_fault_text (Unclosed line) = quote_text line
