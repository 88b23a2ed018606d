use Rattle.std.proofs.Common.{◌≡◌, drop, Ok}
use Rattle.csv.specs.Records.{fields_of}
use Rattle.liquid_data.specs.Heads.{all_named, columns_view, none_named}
use Rattle.liquid_data.proofs.head.column_names.Given as goal

-- the columns so far and the cells of what is left are those of the whole row
abbrev pub invariant-loop-cell : goal.invariant-loop-cell
invariant-loop-cell l = record {
  named : all_named l.fn.form (Ok none_named) (fields_of l.fn.head)
      ≡ all_named l.fn.form (Ok (columns_view l.columns)) (drop l.cell-iterator.at (fields_of l.fn.head));
  row : l.cell-iterator.row.now ≡ l.fn.head;
}
