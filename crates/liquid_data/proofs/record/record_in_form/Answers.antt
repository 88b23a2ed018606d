use Rattle.std.proofs.Common.{rules, arith, ◌≡◌, ◌+◌, ◌∷◌, drop, get_or, length, map, string_bytes, sym, ap, ◌∙◌}
use Rattle.std.proofs.lemmas.List.{drop_more, length-map}
use Rattle.csv.specs.Records.{field_at, fields_of}
use Rattle.liquid_model.specs.Data.{put}
use Rattle.liquid_model.specs.View.{pairs_view}
use Rattle.liquid_data.specs.Cells.{cell_datum}
use Rattle.liquid_data.proofs.RowRecords.{record_end, record_refused, record_turn}
use Rattle.liquid_data.proofs.record.record_in_form.Goals as goal

pub returns-in_default : goal.returns-in_default
returns-in_default c =
    let inv = c.loop-name.invariant in
    let n = c.loop-name.cells.at in
    let names = map string_bytes c.args.names.now in
    let cells = fields_of c.args.row.now in
    let same : length cells ≡ length names = omega (arith, c.len.ensures, c.if-len-names.false, length-map c.args.names.now string_bytes) in
    record_end c.args.form c.loop-name.column names cells (map string_bytes (drop c.loop-name.name-index c.args.names.now)) n (pairs_view c.loop-name.«data».entries) same
    (c.in_default.ensures.steps.1 ∙ ap (λ r. field_at (fields_of r) n) inv.row) inv.under

pub returns-in-Err : goal.returns-in-Err
returns-in-Err c =
    let inv = c.loop-name.invariant in
    let n = c.loop-name.cells.at in
    let xs = c.args.names.now in
    let i = c.loop-name.name-index in
    let x = c.name-item.result in
    let at : x ≡ get_or xs i x = search rules in
    let next : drop i xs ≡ x ∷ drop (i + 1) xs = drop_more xs i x (omega arith) ∙ ap (λ z. z ∷ drop (i + 1) xs) (sym at) in
    let names = map string_bytes xs in
    let cells = fields_of c.args.row.now in
    let same : length cells ≡ length names = omega (arith, c.len.ensures, c.if-len-names.false, length-map xs string_bytes) in
    record_refused c.args.form c.loop-name.column names cells (map string_bytes (drop i xs)) (map string_bytes (drop (i + 1) xs)) n c.in-Err.byte (string_bytes x) c.in-Some.cell.now (pairs_view c.loop-name.«data».entries) same
    (ap (map string_bytes) next) (c.in-Some.ensures.steps.1 ∙ ap (λ r. field_at (fields_of r) n) inv.row) c.in-Err.ensures inv.under

pub loop-name-preserved : goal.loop-name-preserved
loop-name-preserved c =
    let inv = c.loop-name.invariant in
    let n = c.loop-name.cells.at in
    let xs = c.args.names.now in
    let i = c.loop-name.name-index in
    let x = c.name-item.result in
    let at : x ≡ get_or xs i x = search rules in
    let next : drop i xs ≡ x ∷ drop (i + 1) xs = drop_more xs i x (omega arith) ∙ ap (λ z. z ∷ drop (i + 1) xs) (sym at) in
    let steps = c.in-Some.ensures.steps in
    let found = pairs_view c.loop-name.«data».entries in
    let t = c.in-Ok.text.now in
    record {
      under = record_turn c.args.form c.loop-name.column _ (map string_bytes xs) (fields_of c.args.row.now) (map string_bytes (drop i xs)) (map string_bytes (drop (i + 1) xs)) n c.next.new.self.at (string_bytes x) c.in-Some.cell.now t found
          (pairs_view c.put_cell.new.«data».entries) (ap (map string_bytes) next) (steps.1 ∙ ap (λ r. field_at (fields_of r) n) inv.row) c.in-Ok.ensures
          (c.in_ok-put_cell-in-Ok.ensures ∙ ap (λ name. put name (cell_datum c.args.form t) found) c.as_str.ensures.value) steps.2 c.saturating_add-column.ensures inv.under;
      row = ap (λ r. r.now) steps.0 ∙ inv.row;
    }
