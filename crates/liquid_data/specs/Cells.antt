-- Cells of a table as texts and as values.
--     cell_text cell      the text of a cell, where it is UTF-8
--     cell_read cell      that text, or the first byte that makes it none
--     one_more n      the next number, at most what 64 bits hold
--     cell_datum form cell      the value of a cell that is a text
use Rattle.std.specs.Prelude.{List, ℕ, ℤ, ◌==◌, Bool, true, false, cond, length, codes, bytes_eq}
use Rattle.std.specs.Prelude.{Option, Some, None, Result, Ok, Err, ◌+◌, min}
use Rattle.std.specs.Borrow.{Bor}
use Rattle.std.specs.Fmt.{signed_decimal}
use Rattle.std.specs.Str.{is_utf8}
use Rattle.std.specs.Str.Lossy.{utf8_valid_len}
use Rattle.liquid_model.specs.Data.{Datum, nil, truth, number, text}
use Rattle.liquid_model.specs.Texts.{Text}
use Rattle.liquid_model.specs.Whole.{whole_text}
use Rattle.liquid_data.specs.declared.form.CellForm.{CellForm}
use Rattle.liquid_data.specs.declared.form.CellForm.TheVariants.{Texts, Typed}

abbrev pub cell_text : List ℕ → Option Text
cell_text cell = cond (is_utf8 cell) (Some cell) None

abbrev pub one_more : ℕ → ℕ
one_more n = min (n + 1) 18446744073709551615

-- the byte after the longest front that is UTF-8, from 1
abbrev pub cell_read : List ℕ → Result Text ℕ
cell_read cell = cond (is_utf8 cell) (Ok cell) (Err (one_more (utf8_valid_len cell)))

-- a number, where the cell is spelled as the number is printed
abbrev pub if_spelled : Text → Option ℤ → Datum
if_spelled cell None = text cell
if_spelled cell (Some z) = cond (bytes_eq (signed_decimal z) cell) (number z) (text cell)

-- nil, a truth value or a number, where the cell is one, and else its text
abbrev pub typed_cell : Text → Datum
typed_cell cell = cond (length cell == 0) nil
    (cond (bytes_eq cell (codes "true")) (truth true)
    (cond (bytes_eq cell (codes "false")) (truth false)
    (if_spelled cell (whole_text cell))))

abbrev pub cell_datum : CellForm → Text → Datum
cell_datum Texts cell = text cell
cell_datum Typed cell = typed_cell cell

-- ---- as contracts see them

abbrev pub text_or_byte : Result (Bor Text) ℕ → Result Text ℕ
text_or_byte (Ok s) = Ok s.now
text_or_byte (Err byte) = Err byte
