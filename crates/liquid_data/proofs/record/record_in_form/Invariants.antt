use Rattle.std.proofs.Common.{◌≡◌, drop, map, string_bytes, Ok}
use Rattle.csv.specs.Records.{fields_of}
use Rattle.liquid_model.specs.Data.{no_pairs}
use Rattle.liquid_model.specs.View.{pairs_view}
use Rattle.liquid_data.specs.Rows.{cells_under}
use Rattle.liquid_data.proofs.record.record_in_form.Given as goal

-- the data so far and the cells of what is left are those of the whole row
abbrev pub invariant-loop-name : goal.invariant-loop-name
invariant-loop-name l = record {
  under : cells_under l.fn.form 1 (Ok no_pairs) (map string_bytes l.fn.names) (fields_of l.fn.row)
      ≡ cells_under l.fn.form l.column (Ok (pairs_view l.«data».entries)) (map string_bytes (drop l.name-index l.fn.names)) (drop l.cells.at (fields_of l.fn.row));
  row : l.cells.row.now ≡ l.fn.row;
}
